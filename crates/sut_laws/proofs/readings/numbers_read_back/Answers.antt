use Rattle.sut_text.proofs.Spelling.{spelled-whole, whole-spelled}
use Rattle.sut_laws.proofs.readings.numbers_read_back.Goals as goal

pub returns : goal.returns
returns c = (whole-spelled, spelled-whole)
