use Rattle.std.proofs.Common.{◌≡◌, ◌∙◌, false, sym, subst, ap}
use Rattle.std.specs.Prelude.{All, IsTrue}
use Rattle.std.proofs.lemmas.List.Elements.{All-tail}
use Rattle.sut_classes.specs.ClassLists.{ClassLists}
use Rattle.sut_classes.specs.Groups.{groups_of}
use Rattle.sut_measures.specs.Fits.{fits}
use Rattle.sut_measures.specs.declared.measures.Measure.TheVariants as measure
use Rattle.sut_tables.specs.LiveRule.{is_part_of}
use Rattle.sut_tables.specs.Problems.{groups}
use Rattle.sut_tables.specs.RowFacts.{RowFacts}
use Rattle.sut_session.proofs.Steps.{any-more}
use Rattle.sut_session.proofs.following.has_part.Goals as goal

pub loop-row-preserved : goal.loop-row-preserved
loop-row-preserved c =
    let p = c.args.p.now in
    let r = c.in-Some.row.now in
    let rest = c.next.new.self in
    let total = measure.Total c.args.t in
    let no : is_part_of (groups p) r.measure total ≡ false =
    sym (c.is_part.ensures ∙ ap (λ (cs : ClassLists). is_part_of (groups_of cs) c.measure.result total) c.classes.ensures ∙ ap (λ m. is_part_of (groups p) m total) c.measure.ensures)
    ∙ c.if-is_part.false in
    record {
      fitting = All-tail (λ (s : RowFacts). IsTrue (fits p.classes s.measure)) r rest (subst (All (λ (s : RowFacts). IsTrue (fits p.classes s.measure))) c.in-Some.ensures.steps c.loop-row.invariant.fitting);
      left = sym (any-more (λ (s : RowFacts). is_part_of (groups p) s.measure total) r rest c.loop-row.row-iterator c.in-Some.ensures.steps no) ∙ c.loop-row.invariant.left;
    }
