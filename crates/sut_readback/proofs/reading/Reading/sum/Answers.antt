use Rattle.std.proofs.Common.{◌∙◌, ap}
use Rattle.std.proofs.lemmas.Int.{to_z-of_z}
use mir.Syntax.{w128}
use mir.Val.{SFits}
use Rattle.sut_tables.specs.Breaks.{first_of}
use Rattle.sut_tables.specs.TableFacts.{TableFacts}
use Rattle.sut_tables.specs.Values.{total_value}
use Rattle.sut_readback.specs.BalancedFile.{TableSoFar}
use Rattle.sut_readback.proofs.CellsFirst.{all-taken, total-next}
use Rattle.sut_readback.proofs.reading.Reading.sum.Goals as goal

pub returns : goal.returns
returns c =
    let r = c.self.inside in
    let past = total-next r c.args.u c.self.invariant (ap (λ (s : TableSoFar). first_of s.coming) c.self.view_is ∙ c.requires) in
    let fits : SFits w128 c.value.result = record { sfits = c.value.type_inv } in
    to_z-of_z w128 c.value.result fits ∙ c.value.ensures
    ∙ ap (λ (t : TableFacts). total_value t c.args.u) (all-taken r past ∙ ap (λ (s : TableSoFar). s.table) c.self.view_is)
