use Rattle.generated_laws.proofs.SettingsRead.{settings-read}
use Rattle.generated_laws.proofs.settings_read.Goals as goal

pub returns : goal.returns
returns c = settings-read
