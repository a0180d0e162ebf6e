use Rattle.std.proofs.Common.{◌∙◌, ap, rules}
use Rattle.sut_tables.specs.Changes.{with_row}
use Rattle.sut_tables.specs.ProblemView.{problem_of}
use Rattle.sut_tables.proofs.ProblemRows.{not-found, row-added, rows-added}
use Rattle.sut_tables.proofs.TallyRows.{tally-room}
use Rattle.sut_tables.proofs.problems.Problem.add.Goals as goal

pub raise-requires : goal.raise-requires
raise-requires c = tally-room (problem_of c.self.inside) c.self.inside.live c.self.invariant.kept c.self.invariant.live

pub invariant_of-self-in-Cell : goal.invariant_of-self-in-Cell
invariant_of-self-in-Cell c =
    row-added c.self.inside c.insert.new.self c.args.row _ _ c.raise.new.self c.self.invariant (search rules) c.insert.ensures.was_ordered
    (not-found c.self.inside c.args.row.measure c.find.result c.self.invariant (search rules) (search rules))
    (search rules) c.in_range.ensures (search rules) (search rules) (search rules) (search rules)

pub invariant_of-self-in-Total : goal.invariant_of-self-in-Total
invariant_of-self-in-Total c =
    row-added c.self.inside c.insert.new.self c.args.row _ _ c.raise.new.self c.self.invariant (search rules) c.insert.ensures.was_ordered
    (not-found c.self.inside c.args.row.measure c.find.result c.self.invariant (search rules) (search rules))
    (search rules) c.in_range.ensures (search rules) (search rules) (search rules) (search rules)

pub returns-in-Cell-clause-ok : goal.returns-in-Cell-clause-ok
returns-in-Cell-clause-ok c =
    rows-added c.self.inside c.insert.new.self c.args.row c.self.invariant (search rules) (not-found c.self.inside c.args.row.measure c.find.result c.self.invariant (search rules) (search rules))
    ∙ ap (λ p. with_row p c.args.row) c.self.view_is

pub returns-in-Total-clause-ok : goal.returns-in-Total-clause-ok
returns-in-Total-clause-ok c =
    rows-added c.self.inside c.insert.new.self c.args.row c.self.invariant (search rules) (not-found c.self.inside c.args.row.measure c.find.result c.self.invariant (search rules) (search rules))
    ∙ ap (λ p. with_row p c.args.row) c.self.view_is
