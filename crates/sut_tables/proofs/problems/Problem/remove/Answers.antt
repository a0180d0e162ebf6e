use Rattle.std.proofs.Common.{◌-◌, ◌≤◌, ◌∙◌, ap, subst, sym, rules}
use Rattle.sut_tables.specs.Changes.{row_removed}
use Rattle.sut_tables.specs.Problems.{row_at}
use Rattle.sut_tables.proofs.ProblemRows.{cell-counts, counted, lookup-row, measures-ascend, none-less, one-less, row-removed, rows-removed, total-counts}
use Rattle.sut_tables.proofs.problems.Problem.remove.Goals as goal
use Rattle.sut_tables.proofs.problems.Problem.remove.Goals.{in-Cell, in-Total}

pub returns-in_default-clause-answer : goal.returns-in_default-clause-answer
returns-in_default-clause-answer c = search rules ∙ lookup-row c.args.m c.self.inside.rows.entries c.self.invariant.named ∙ ap (λ p. row_at p c.args.m) c.self.view_is

pub returns-in_default-clause-after : goal.returns-in_default-clause-after
returns-in_default-clause-after c =
    rows-removed c.self.inside c.remove.new.self c.args.m c.self.invariant (search rules) (measures-ascend c.self.inside.rows.entries c.self.invariant.named c.self.invariant.kept.problem.in_order)
    ∙ ap (λ p. row_removed p c.args.m) c.self.view_is

pub overflow_sub-self : goal.overflow_sub-self
overflow_sub-self c =
    subst (λ k. k ≤ c.self.inside.cells) (cell-counts c.args.m c.in-Cell.field-0 c.in-Cell.is).0
    (counted c.self.inside c.args.m c.in-Some.row c.self.invariant (sym c.remove.ensures.value ∙ c.in-Some.is)).0

pub invariant_of-self-in-Cell : goal.invariant_of-self-in-Cell
invariant_of-self-in-Cell c =
    let found = sym c.remove.ensures.value ∙ c.in-Some.is in
    let counts = cell-counts c.args.m c.in-Cell.field-0 c.in-Cell.is in
    row-removed c.self.inside c.remove.new.self c.args.m c.in-Some.row (c.self.inside.cells - 1) c.self.inside.totals c.lower.new.self c.self.invariant c.remove.ensures.entries (measures-ascend c.self.inside.rows.entries c.self.invariant.named c.self.invariant.kept.problem.in_order) found
    (one-less c.self.inside.cells _ counts.0 (counted c.self.inside c.args.m c.in-Some.row c.self.invariant found).0)
    (none-less c.self.inside.totals _ counts.1) c.lower.ensures

pub overflow_sub-self-in-Total : goal.overflow_sub-self-in-Total
overflow_sub-self-in-Total c =
    subst (λ k. k ≤ c.self.inside.totals) (total-counts c.args.m c.in-Total.field-0 c.in-Total.is).1
    (counted c.self.inside c.args.m c.in-Some.row c.self.invariant (sym c.remove.ensures.value ∙ c.in-Some.is)).1

pub invariant_of-self-in-Total : goal.invariant_of-self-in-Total
invariant_of-self-in-Total c =
    let found = sym c.remove.ensures.value ∙ c.in-Some.is in
    let counts = total-counts c.args.m c.in-Total.field-0 c.in-Total.is in
    row-removed c.self.inside c.remove.new.self c.args.m c.in-Some.row c.self.inside.cells (c.self.inside.totals - 1) c.lower.new.self c.self.invariant c.remove.ensures.entries (measures-ascend c.self.inside.rows.entries c.self.invariant.named c.self.invariant.kept.problem.in_order) found
    (none-less c.self.inside.cells _ counts.0)
    (one-less c.self.inside.totals _ counts.1 (counted c.self.inside c.args.m c.in-Some.row c.self.invariant found).1) c.lower.ensures

pub returns-clause-answer : goal.returns-clause-answer
returns-clause-answer c =
    sym c.in-Some.is ∙ c.remove.ensures.value ∙ lookup-row c.args.m c.self.inside.rows.entries c.self.invariant.named ∙ ap (λ p. row_at p c.args.m) c.self.view_is

pub returns-clause-after : goal.returns-clause-after
returns-clause-after c =
    let sorted = measures-ascend c.self.inside.rows.entries c.self.invariant.named c.self.invariant.kept.problem.in_order in
    elim c.match-m.branch [
      | in-Cell w ↦ w.self-is ∙ rows-removed c.self.inside c.remove.new.self c.args.m c.self.invariant c.remove.ensures.entries sorted ∙ ap (λ p. row_removed p c.args.m) c.self.view_is
      | in-Total w ↦ w.self-is ∙ rows-removed c.self.inside c.remove.new.self c.args.m c.self.invariant c.remove.ensures.entries sorted ∙ ap (λ p. row_removed p c.args.m) c.self.view_is
    ]
