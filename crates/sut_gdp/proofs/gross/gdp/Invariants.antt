use Rattle.std.proofs.Common.{◌≡◌, take}
use Rattle.sut_gdp.specs.Parts.{parts_of}
use Rattle.sut_gdp.proofs.gross.gdp.Given as goal

-- the parts of the first cells
abbrev pub invariant-loop-held : goal.invariant-loop-held
invariant-loop-held l = l.parts ≡ parts_of (take l.held-index l.held-items)
