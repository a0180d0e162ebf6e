use Rattle.std.proofs.Common.{◌≡◌, ◌≤◌, ◌+◌, List, All, drop, take}
use Rattle.std.specs.Prelude.{count_by}
use Rattle.sut_settings.specs.SettingsFacts.{SettingsFacts}
use Rattle.sut_source.specs.SourceText.{HasGrade}
use Rattle.sut_edits.specs.EditRules.{IsGraded}
use Rattle.sut_edits.specs.EditsFile.{is_balance}
use Rattle.sut_edits.specs.declared.edits.EditLine.{EditLine}
use Rattle.sut_review.specs.Seats.{SeatFacts, seat_of, seats_of}
use Rattle.sut_editing.specs.Moments.{Stage, lines_taken}
use Rattle.sut_editing.specs.Events.{Event}
use Rattle.sut_editing.specs.Reached.{IsReached, kept_in}
use Rattle.sut_editing.proofs.Reaching.{ReachesSo}
use Rattle.sut_editing.proofs.taking.take_lines.Given as goal

abbrev pub invariant-loop-line : goal.invariant-loop-line
invariant-loop-line g l = record {
  so : (first : List SeatFacts) (stage : Stage) (events : List Event) → IsReached first stage events (kept_in l.fn.session (seats_of l.fn.panel.seats.items (λ seat. seat_of (λ b. (goal.Reviewer-dyn g (b.vtable, b.value)).rule b.value) (λ b. (goal.Reviewer-dyn g (b.vtable, b.value)).marked b.value) l.fn.panel.shown seat.label.items seat.seen seat.tally seat.object)) l.fn.log) → ReachesSo first (lines_taken l.lines stage) (drop l.line-index l.lines) (kept_in l.session (seats_of l.panel.seats.items (λ seat. seat_of (λ b. (goal.Reviewer-dyn g (b.vtable, b.value)).rule b.value) (λ b. (goal.Reviewer-dyn g (b.vtable, b.value)).marked b.value) l.panel.shown seat.label.items seat.seen seat.tally seat.object)) l.log);
  classes : l.session.problem.classes ≡ l.fn.session.problem.classes;
  graded : (s : SettingsFacts) → All (λ (x : EditLine). IsGraded s x.edit) l.lines → All (HasGrade s) l.fn.session.problem.rows → All (HasGrade s) l.session.problem.rows;
  counted : l.log.rebalances ≡ l.fn.log.rebalances + count_by (λ (x : EditLine). is_balance x.edit) (take l.line-index l.lines);
  shown : l.panel.shown ≤ l.log.rebalances;
}
