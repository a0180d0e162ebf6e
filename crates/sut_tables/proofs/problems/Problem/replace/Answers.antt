use Rattle.std.proofs.Common.{◌∙◌, ap, sym, refl}
use Rattle.std.specs.Prelude.{is_some}
use Rattle.std.specs.BTreeMap.{is_at}
use Rattle.std.specs.Map.{lookup, set_value}
use Rattle.sut_tables.specs.Changes.{row_replaced}
use Rattle.sut_tables.specs.Problems.{row_at}
use Rattle.sut_tables.proofs.ProblemRows.{compare, lookup-row, measures-ascend, row-replaced, rows-missing, rows-replaced}
use Rattle.sut_tables.proofs.problems.Problem.replace.Goals as goal

pub returns-in_default-clause-answer : goal.returns-in_default-clause-answer
returns-in_default-clause-answer c =
    let none = c.in_default.ensures.value ∙ ap (λ m. lookup (is_at (compare m)) c.self.inside.rows.entries) c.measure.ensures ∙ lookup-row c.args.row.measure c.self.inside.rows.entries c.self.invariant.named ∙ ap (λ p. row_at p c.args.row.measure) c.self.view_is in
    ((λ h. absurd cc), (λ h. ap is_some none ∙ h))

pub returns-in_default-clause-after : goal.returns-in_default-clause-after
returns-in_default-clause-after c =
    rows-missing c.self.inside c.get_mut.follows.lender-at-none c.args.row c.self.invariant c.get_mut.follows.holds-at-none
    (c.in_default.ensures.value ∙ ap (λ m. lookup (is_at (compare m)) c.self.inside.rows.entries) c.measure.ensures)
    (measures-ascend c.self.inside.rows.entries c.self.invariant.named c.self.invariant.kept.problem.in_order)
    ∙ ap (λ p. row_replaced p c.args.row) c.self.view_is

pub invariant_of-self-2 : goal.invariant_of-self-2
invariant_of-self-2 c =
    row-replaced c.self.inside (c.get_mut.follows.lender c.args.row) c.args.row c.in-Some.place.now c.self.invariant
    ((c.get_mut.follows.holds c.args.row).0 ∙ ap (λ m. set_value (is_at (compare m)) c.self.inside.rows.entries c.args.row) c.measure.ensures)
    (measures-ascend c.self.inside.rows.entries c.self.invariant.named c.self.invariant.kept.problem.in_order)
    (sym (c.in-Some.ensures.value ∙ ap (λ m. lookup (is_at (compare m)) c.self.inside.rows.entries) c.measure.ensures)) c.in_range.ensures

pub returns-clause-answer : goal.returns-clause-answer
returns-clause-answer c =
    let some = c.in-Some.ensures.value ∙ ap (λ m. lookup (is_at (compare m)) c.self.inside.rows.entries) c.measure.ensures ∙ lookup-row c.args.row.measure c.self.inside.rows.entries c.self.invariant.named ∙ ap (λ p. row_at p c.args.row.measure) c.self.view_is in
    ((λ h. sym (ap is_some some)), (λ h. refl))

pub returns-clause-after : goal.returns-clause-after
returns-clause-after c =
    rows-replaced c.self.inside (c.get_mut.follows.lender c.args.row) c.args.row c.self.invariant
    ((c.get_mut.follows.holds c.args.row).0 ∙ ap (λ m. set_value (is_at (compare m)) c.self.inside.rows.entries c.args.row) c.measure.ensures)
    (measures-ascend c.self.inside.rows.entries c.self.invariant.named c.self.invariant.kept.problem.in_order)
    ∙ ap (λ p. row_replaced p c.args.row) c.self.view_is
