use Rattle.std.proofs.Common.{◌∙◌, ◌<◌, ◌≤◌, ◌^◌, length, ap, sym, subst, arith, ◌≡◌, to_z, of_z}
use mir.Syntax.{w128}
use Rattle.std.proofs.lemmas.Int.{ints}
use Rattle.sut_tables.specs.CellSums.{IsUpTo, sum_at}
use Rattle.sut_tables.specs.TableView.{facts_of}
use Rattle.sut_tables.proofs.SumsKept.{kept-is, sum_at-small}
use Rattle.sut_tables.proofs.tables.Table.sum.Goals as goal

pub returns-clause-value : goal.returns-clause-value
returns-clause-value c =
    let is = c.number_for.ensures ∙ kept-is (facts_of c.self.inside) c.args.s c.self.inside.sums (c.self.invariant.sums c.args.s) ∙ ap (λ t. sum_at t c.args.s) c.self.view_is in
    omega (arith, ints, is)

pub returns-clause-small : goal.returns-clause-small
returns-clause-small c =
    let is = c.number_for.ensures ∙ kept-is (facts_of c.self.inside) c.args.s c.self.inside.sums (c.self.invariant.sums c.args.s) in
    let cells = c.self.inside.cells in
    let few : length cells.items < 2 ^ 64 = omega (arith, cells.ok.0, cells.ok.1, cells.small) in
    let same : to_z w128 (of_z w128 c.number_for.result) ≡ sum_at (facts_of c.self.inside) c.args.s = omega (arith, ints, is) in
    subst (IsUpTo (2 ^ 120)) (sym same) (sum_at-small (facts_of c.self.inside) c.self.invariant.in_range few c.args.s)
