use Rattle.std.proofs.Common.{◌≡◌, ◌∙◌, None, sym, ap}
use Rattle.toml.specs.View.{table_view, view}
use Rattle.sut_settings.specs.SettingsFile.{first_unknown}
use Rattle.sut_settings.specs.SettingsView.{is_relative}
use Rattle.sut_settings.proofs.ReadLemmas.{bad-scheme, grades-absent, grades-there, no-grades, no-scheme, unknown-key, grades_read}
use Rattle.sut_settings.proofs.read.settings_in.Goals as goal

pub returns-in-Some : goal.returns-in-Some
returns-in-Some c = λ _. sym (unknown-key (table_view c.args.table.now) _ (sym c.first_unknown.ensures ∙ c.in-Some.is))

pub returns-in_default-value_at : goal.returns-in_default-value_at
returns-in_default-value_at c = λ _.
    let known : first_unknown 1 (table_view c.args.table.now) ≡ None = sym c.first_unknown.ensures ∙ c.in_default.is in
    let scheme = rw c.in_default-value_at.is at c.value_at.ensures in
    sym (no-scheme (table_view c.args.table.now) known (sym scheme))

pub returns-in_default-scheme_of : goal.returns-in_default-scheme_of
returns-in_default-scheme_of c = λ _.
    let known : first_unknown 1 (table_view c.args.table.now) ≡ None = sym c.first_unknown.ensures ∙ c.in_default.is in
    let scheme = rw c.in-Some-value_at.is at c.value_at.ensures in
    let bad = rw c.in_default-scheme_of.is at c.scheme_of.ensures in
    sym (bad-scheme (table_view c.args.table.now) _ known (sym scheme) (sym bad))

pub invariant_of-result : goal.invariant_of-result
invariant_of-result c = rw c.new.ensures.items (no-grades (is_relative c.in-Some-scheme_of.scheme))

pub returns-in-None : goal.returns-in-None
returns-in-None c = λ _.
    let known : first_unknown 1 (table_view c.args.table.now) ≡ None = sym c.first_unknown.ensures ∙ c.in_default.is in
    let scheme = rw c.in-Some-value_at.is at c.value_at.ensures in
    let is = rw c.in-Some-scheme_of.is at c.scheme_of.ensures in
    let none = rw c.in-None.is at c.value_at-2.ensures in
    rw c.new.ensures.items (sym (grades-absent (table_view c.args.table.now) _ _ known (sym scheme) (sym is) (sym none)))

pub returns-in-Some-as_table : goal.returns-in-Some-as_table
returns-in-Some-as_table c = λ memory.
    let known : first_unknown 1 (table_view c.args.table.now) ≡ None = sym c.first_unknown.ensures ∙ c.in_default.is in
    let scheme = rw c.in-Some-value_at.is at c.value_at.ensures in
    let is = rw c.in-Some-scheme_of.is at c.scheme_of.ensures in
    let there = rw c.in-Some-value_at-2.is at c.value_at-2.ensures in
    let grades = rw c.in-Some-as_table.is at c.as_table.ensures in
    c.read_grades.ensures memory
    ∙ sym (grades-there (table_view c.args.table.now) _ _ (view c.in-Some-value_at-2.value.now) known (sym scheme) (sym is) (sym there) ∙ ap (grades_read (is_relative c.in-Some-scheme_of.scheme)) (sym grades))

pub returns-in-None-as_table : goal.returns-in-None-as_table
returns-in-None-as_table c = λ _.
    let known : first_unknown 1 (table_view c.args.table.now) ≡ None = sym c.first_unknown.ensures ∙ c.in_default.is in
    let scheme = rw c.in-Some-value_at.is at c.value_at.ensures in
    let is = rw c.in-Some-scheme_of.is at c.scheme_of.ensures in
    let there = rw c.in-Some-value_at-2.is at c.value_at-2.ensures in
    let grades = rw c.in-None-as_table.is at c.as_table.ensures in
    sym (grades-there (table_view c.args.table.now) _ _ (view c.in-Some-value_at-2.value.now) known (sym scheme) (sym is) (sym there) ∙ ap (grades_read (is_relative c.in-Some-scheme_of.scheme)) (sym grades))
