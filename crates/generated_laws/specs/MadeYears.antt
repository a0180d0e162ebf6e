-- What the three files of a made year spell.
use Rattle.std.specs.Prelude.{◌≡◌, ◌+◌, ◌*◌, ℕ, length, Ok}
use Rattle.sut_classes.specs.ClassFile.{classes_of}
use Rattle.sut_classes.specs.ClassLists.{ClassLists}
use Rattle.sut_settings.specs.SettingsFacts.{SettingsFacts}
use Rattle.sut_settings.specs.SettingsFile.{settings_of}
use Rattle.sut_source.specs.SourceFile.{source_of}
use Rattle.sut_tables.specs.Costs.{IsAdmissible, IsImpossible}
use Rattle.sut_tables.specs.ProblemFacts.{ProblemFacts}
use Rattle.sut_tables.specs.Tables.{zeros}
use Rattle.sut_generate.specs.Generator.{made_classes, made_settings, made_source}
use Rattle.generated_laws.specs.MadeLists.{made_facts, made_lists}

-- the problem of a made source, over the made classes: p * (n + 7) + n rows, and a table of zeros is admissible
pub record MadeProblem (seed p n : ℕ) : Type 0 where
  pub problem : ProblemFacts
  pub classes : problem.classes ≡ made_lists p n
  pub read : source_of made_facts (made_lists p n) (made_source seed p n) ≡ Ok problem
  pub size : length problem.rows ≡ p * (n + 7) + n
  pub zeros : IsAdmissible problem (zeros problem)

-- the three files are read in order, without a fault, and the problem that they spell is possible
pub record MadeYear (seed p n : ℕ) : Type 0 where
  pub settings : SettingsFacts
  pub classes : ClassLists
  pub problem : ProblemFacts
  pub settings_read : settings_of made_settings ≡ Ok settings
  pub classes_read : classes_of (made_classes p n) ≡ Ok classes
  pub source_read : source_of settings classes (made_source seed p n) ≡ Ok problem
  pub size : length problem.rows ≡ p * (n + 7) + n
  pub possible : ¬ IsImpossible problem
