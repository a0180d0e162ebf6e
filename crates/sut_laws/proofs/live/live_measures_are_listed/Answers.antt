use Rattle.sut_laws.proofs.LiveLists.{measures-listed}
use Rattle.sut_laws.proofs.live.live_measures_are_listed.Goals as goal

pub returns : goal.returns
returns c = measures-listed
