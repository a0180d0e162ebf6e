use Rattle.sut_records.proofs.PlainText.{printed-file}
use Rattle.sut_laws.proofs.readings.files_read_back.Goals as goal

pub returns : goal.returns
returns c = λ header lines h hs mark. printed-file header lines h hs mark
