use Rattle.sut_laws.proofs.LiveLists.{accounts-listed}
use Rattle.sut_laws.proofs.live.live_accounts_are_listed.Goals as goal

pub returns : goal.returns
returns c = accounts-listed
