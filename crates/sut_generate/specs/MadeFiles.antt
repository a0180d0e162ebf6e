-- The files of a made year.
use Rattle.std.specs.Prelude.{◌≡◌, ℕ}
use Rattle.sut_generate.specs.Generator.{made_classes, made_settings, made_source}
use Rattle.sut_generate.specs.declared.Files.{Files}

pub record AreMade (seed p n : ℕ) (f : Files) : Type 0 where
  pub settings : f.settings.items ≡ made_settings
  pub classes : f.classes.items ≡ made_classes p n
  pub source : f.source.items ≡ made_source seed p n
