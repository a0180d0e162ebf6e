use Rattle.std.proofs.Common.{◌∙◌, ap}
use Rattle.sut_readback.specs.BalancedFile.{TableSoFar}
use Rattle.sut_readback.proofs.CellsFirst.{all-read}
use Rattle.sut_readback.proofs.reading.Reading.into_table.Goals as goal

pub returns : goal.returns
returns c =
    all-read c.self.inside c.self.invariant (ap (λ (s : TableSoFar). s.coming) c.self.view_is ∙ c.requires)
    ∙ ap (λ (s : TableSoFar). s.table) c.self.view_is
