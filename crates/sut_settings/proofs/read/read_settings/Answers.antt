use Rattle.std.proofs.Common.{◌≡◌, ◌∙◌, None, Some, sym, ap}
use Rattle.std.proofs.lemmas.Bool.{false≢true}
use Rattle.csv.specs.Reading.{strip_bom}
use Rattle.toml.specs.Parse.{parse_document}
use Rattle.toml.specs.View.{table_view}
use Rattle.sut_settings.specs.SettingsFile.{settings_in}
use Rattle.sut_settings.proofs.ReadLemmas.{no-document, whole-text}
use Rattle.sut_settings.proofs.read.read_settings.Goals as goal

pub returns-in-Ok-table_from_str : goal.returns-in-Ok-table_from_str
returns-in-Ok-table_from_str c = λ memory.
    let (text, utf8) = c.in-Ok.ensures.cases in
    let read : parse_document (strip_bom c.args.bytes.now) ≡ Some (table_view c.in-Ok-table_from_str.table) = rw (← c.skip_mark.ensures, ← text) c.in-Ok-table_from_str.ensures.ok in
    c.settings_in.ensures memory ∙ sym (whole-text c.args.bytes.now (rw (← c.skip_mark.ensures) utf8) ∙ ap settings_in read)

pub returns-else-is_memory : goal.returns-else-is_memory
returns-else-is_memory c = λ _.
    let (text, utf8) = c.in-Ok.ensures.cases in
    let refused = c.in-Err-table_from_str.ensures.refused (λ m. false≢true (sym c.if-is_memory.false ∙ c.is_memory.ensures.1 m)) in
    let none : parse_document (strip_bom c.args.bytes.now) ≡ None = rw (← c.skip_mark.ensures, ← text) refused in
    sym (whole-text c.args.bytes.now (rw (← c.skip_mark.ensures) utf8) ∙ ap settings_in none ∙ no-document)
