-- The made settings, computed.
use Rattle.std.proofs.Common.{◌≡◌, Ok, refl}
use Rattle.std.specs.Str.{chars, is_utf8}
use Rattle.std.specs.Str.Lossy.{utf8_valid_len}
use Rattle.csv.proofs.OnLiterals.{csv_on_literals}
use Rattle.toml.proofs.OnLiterals.{toml_on_literals}
use Rattle.sut_settings.specs.SettingsFile.{settings_in, settings_of}
use Rattle.sut_generate.specs.Generator.{made_settings}
use Rattle.generated_laws.specs.MadeLists.{made_facts}

pub settings-read : settings_of made_settings ≡ Ok made_facts
unfolding csv_on_literals toml_on_literals settings_in utf8_valid_len is_utf8 chars
settings-read = refl
