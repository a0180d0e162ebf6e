use Rattle.std.proofs.Common.{◌∙◌, ap, subst, sym}
use Rattle.sut_settings.specs.SettingsFile.{settings_of}
use Rattle.sut_outside.specs.declared.names.FileName.TheVariants.{SettingsToml}
use Rattle.sut_input.specs.declared.faults.InputFault.TheVariants.{BadSettings}
use Rattle.sut_input.specs.declared.faults.InputFault.{InputFault}
use Rattle.std.specs.Prelude.{IfSome}
use Rattle.sut_outside.specs.Files.{Files}
use Rattle.sut_input.specs.Reads.{Refuses}
use Rattle.sut_input.specs.Inputs.{settings_in}
use Rattle.sut_input.proofs.ReadLemmas.{not-read-if, settings-refused-if, was-read-if}
use Rattle.sut_input.proofs.problems.read_settings_file.Goals as goal

pub returns-in-Err-clause-err : goal.returns-in-Err-clause-err
returns-in-Err-clause-err g c = not-read-if SettingsToml settings_of BadSettings (g.F.Shelf.files c.args.shelf.now) c.in-Err.fault c.in-Err.ensures.err

pub returns-in-Ok-read_settings-clause-ok : goal.returns-in-Ok-read_settings-clause-ok
returns-in-Ok-read_settings-clause-ok g c = was-read-if SettingsToml settings_of BadSettings (g.F.Shelf.files c.args.shelf.now) c.in-Ok.bytes.items c.in-Ok-read_settings.settings c.in-Ok.ensures.ok (c.in-Ok-read_settings.ensures (λ e. cc) ∙ ap settings_of c.deref.ensures.value)

pub returns-clause-err : goal.returns-clause-err
returns-clause-err g c =
    let P : InputFault → Type 0 = λ f. IfSome (g.F.Shelf.files c.args.shelf.now) (λ (files : Files). Refuses settings_in files f) in
    subst P (sym c.settings_fault.ensures) (settings-refused-if SettingsToml settings_of (g.F.Shelf.files c.args.shelf.now) c.in-Ok.bytes.items c.in-Err-read_settings.fault c.in-Ok.ensures.ok (λ lack. c.in-Err-read_settings.ensures lack ∙ ap settings_of c.deref.ensures.value))
