use Rattle.std.proofs.Common.{◌≡◌, ◌≤◌, take}
use Rattle.std.specs.Prelude.{count_by}
use Rattle.sut_edits.specs.declared.edits.EditLine.{EditLine}
use Rattle.sut_edits.specs.EditsFile.{is_balance}
use Rattle.sut_edits.proofs.adding.balances_in.Given as goal

abbrev pub invariant-loop-line : goal.invariant-loop-line
invariant-loop-line l = record {
  counted : l.count ≡ count_by (λ (e : EditLine). is_balance e.edit) (take l.line-index l.edits);
  few : l.count ≤ l.line-index;
}
