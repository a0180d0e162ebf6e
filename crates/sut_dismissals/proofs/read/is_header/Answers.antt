use Rattle.sut_dismissals.proofs.read.is_header.Goals as goal

pub returns : goal.returns
returns c = cc
