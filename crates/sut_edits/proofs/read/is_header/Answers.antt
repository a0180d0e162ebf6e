use Rattle.std.proofs.Common.{◌≡◌}
use Rattle.sut_edits.proofs.read.is_header.Goals as goal

pub returns : goal.returns
returns c = cc
