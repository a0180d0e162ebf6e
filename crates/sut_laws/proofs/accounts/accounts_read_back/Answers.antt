use Rattle.sut_laws.proofs.PrintedText.{accounts-read_back}
use Rattle.sut_laws.proofs.accounts.accounts_read_back.Goals as goal

pub returns : goal.returns
returns c = accounts-read_back
