-- The settings that the fields of `Settings` stand for.
use Rattle.std.specs.Prelude.{Bool, true, false, map}
use Rattle.sut_settings.specs.SettingsFacts.{GradeFacts, SettingsFacts}
use Rattle.sut_settings.specs.declared.settings.Scheme.{Scheme}
use Rattle.sut_settings.specs.declared.settings.Scheme.TheVariants.{Flat, Relative}
use Rattle.sut_settings.specs.declared.settings.Grade.{Grade}
use Rattle.sut_settings.specs.declared.settings.Settings.TheInside.{Inside}

abbrev pub is_relative : Scheme → Bool
is_relative Flat = false
is_relative Relative = true

abbrev pub grade_facts : Grade → GradeFacts
grade_facts g = record { name = g.name.items; number = g.number }

abbrev pub settings_facts : Inside → SettingsFacts
settings_facts s = record { relative = is_relative s.scheme; grades = map grade_facts s.grades.items }
