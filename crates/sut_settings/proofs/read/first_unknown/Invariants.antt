use Rattle.std.proofs.Common.{◌≡◌, ◌+◌, length}
use Rattle.toml.specs.View.{members_view}
use Rattle.sut_settings.specs.SettingsFile.{first_unknown}
use Rattle.sut_settings.proofs.read.first_unknown.Given as goal

abbrev pub invariant-keys : goal.invariant-keys
invariant-keys l = record {
  left : first_unknown l.place (members_view l.key-iterator) ≡ first_unknown 1 (members_view l.fn.table.entries);
  counted : l.place + length l.key-iterator ≡ 1 + length l.fn.table.entries;
}
