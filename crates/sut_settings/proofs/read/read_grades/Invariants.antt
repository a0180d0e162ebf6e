use Rattle.std.proofs.Common.{◌≡◌, ◌+◌, length, map}
use Rattle.toml.specs.View.{members_view}
use Rattle.sut_settings.specs.SettingsFile.{grades_of}
use Rattle.sut_settings.specs.SettingsView.{grade_facts, is_relative}
use Rattle.sut_settings.proofs.ReadLemmas.{after}
use Rattle.sut_settings.proofs.read.read_grades.Given as goal

abbrev pub invariant-grades : goal.invariant-grades
invariant-grades l = record {
  read : grades_of (is_relative l.fn.scheme) 1 (members_view l.fn.table.entries)
      ≡ after (map grade_facts l.grades.items) (grades_of (is_relative l.fn.scheme) l.entry (members_view l.name-iterator));
  counted : l.entry + length l.name-iterator ≡ 1 + length l.fn.table.entries;
}
