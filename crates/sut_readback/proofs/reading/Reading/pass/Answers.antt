use Rattle.std.proofs.Common.{◌∙◌, ap, drop}
use Rattle.sut_tables.specs.Breaks.{first_of}
use Rattle.sut_readback.specs.BalancedFile.{TableSoFar}
use Rattle.sut_readback.proofs.CellsFirst.{passed, total-next}
use Rattle.sut_readback.proofs.reading.Reading.pass.Goals as goal

pub returns : goal.returns
returns c =
    let r = c.self.inside in
    passed r (total-next r c.args.u c.self.invariant (ap (λ (s : TableSoFar). first_of s.coming) c.self.view_is ∙ c.requires))
    ∙ ap (λ (s : TableSoFar). record s { coming = drop 1 s.coming }) c.self.view_is
