use Rattle.std.proofs.Common.{◌≡◌, ◌∙◌, ap, arith, length}
use Rattle.std.specs.List.{flat_map}
use Rattle.std.proofs.lemmas.List.{length-map}
use Rattle.sut_classes.specs.ClassLists.{IndustryClass}
use Rattle.sut_classes.specs.Places.{codes_of}
use Rattle.sut_classes.specs.declared.ids.Axis.TheVariants as axis
use Rattle.sut_text.specs.Text.{line_text}
use Rattle.sut_write.specs.Accounts.{industry_entries}
use Rattle.sut_write.specs.Places.{below}
use Rattle.sut_write.proofs.AccountLines.{blocks-over}
use Rattle.sut_write.proofs.Below.{printed-all, printed-more}
use Rattle.sut_write.proofs.accounts.put_industries.Goals as goal

pub loop-place-preserved : goal.loop-place-preserved
loop-place-preserved c =
    printed-more (λ n. flat_map line_text (industry_entries c.args.p.now.classes c.args.t.now (record { 0 = n }))) c.loop-place.place c.args.out.now.items c.loop-place.out.items c.put_industry.new.out.items c.loop-place.invariant c.in_ok-put_industry.ensures

pub returns : goal.returns
returns c =
    let cs = c.args.p.now.classes in
    let t = c.args.t.now in
    let count : c.count-place-end.result ≡ length cs.industries = c.count-place-end.ensures.count ∙ ap (λ cs. length (codes_of cs axis.Industry)) c.classes.ensures ∙ length-map cs.industries (λ (x : IndustryClass). x.code) in
    printed-all (λ n. flat_map line_text (industry_entries cs t (record { 0 = n }))) c.loop-place.place (length cs.industries) c.args.out.now.items c.loop-place.out.items _ c.loop-place.invariant (omega (arith, count)) (blocks-over (industry_entries cs t) (λ n. record { 0 = n }) (below (length cs.industries)))
