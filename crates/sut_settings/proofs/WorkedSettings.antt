-- Worked settings, computed.
use Rattle.std.proofs.Common.{◌≡◌, ◌∷◌, [], Ok, Err, false, refl}
use Rattle.std.specs.Prelude.{codes}
use Rattle.toml.specs.Parse.{parse_document}
use Rattle.sut_settings.specs.SettingsFile.{settings_in}
use Rattle.sut_settings.specs.declared.SettingsFault.TheVariants as fault
use Rattle.toml.proofs.OnLiterals.{toml_on_literals}

large-number : settings_in (parse_document (codes "scheme = \"flat\"\n[grades]\nA = 10001\n")) ≡ Err (fault.BadGrade 1)
unfolding toml_on_literals settings_in
large-number = refl

two-grades : settings_in (parse_document (codes "scheme = \"flat\"\n[grades]\nB = 1\nA = 100\n")) ≡ Ok (record { relative = false; grades = record { name = codes "A"; number = 100 } ∷ record { name = codes "B"; number = 1 } ∷ [] })
unfolding toml_on_literals settings_in
two-grades = refl

other-key : settings_in (parse_document (codes "scheme = \"flat\"\nother = 1\n")) ≡ Err (fault.UnknownKey 1)
unfolding toml_on_literals settings_in
other-key = refl
