use Rattle.std.proofs.Common.{◌≡◌, ◌∙◌, arith, length}
use Rattle.std.proofs.lemmas.List.{length-map}
use Rattle.sut_classes.specs.ClassLists.{IndustryClass}
use Rattle.sut_classes.specs.declared.ids.Column.TheVariants as column
use Rattle.sut_write.proofs.Below.{pushed-all, pushed-more}
use Rattle.sut_write.proofs.use_table.push_industries.Goals as goal

pub loop-place-preserved : goal.loop-place-preserved
loop-place-preserved c =
    pushed-more (λ n. column.Industry (record { 0 = n })) c.loop-place.place c.args.columns.now.items c.loop-place.columns.items c.push.new.self.items c.loop-place.invariant c.in_ok-push.ensures.items

pub returns : goal.returns
returns c =
    let cs = c.args.classes.now in
    let count : c.count-place-end.result ≡ length cs.industries = c.count-place-end.ensures.count ∙ length-map cs.industries (λ (j : IndustryClass). j.code) in
    pushed-all (λ j. column.Industry j) (λ n. record { 0 = n }) c.loop-place.place (length cs.industries) c.args.columns.now.items c.loop-place.columns.items c.loop-place.invariant (omega (arith, count))
