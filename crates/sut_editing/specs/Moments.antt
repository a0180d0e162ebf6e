-- What happens in a run of edits, or the first edit that is refused.
use Rattle.std.specs.Prelude.{ℕ, Bool, true, false, List, [], ◌∷◌, ◌++◌, Option, Some, None, Result, Ok, Err, if◌then◌else◌, is_some}
use Rattle.std.specs.List.{list_any}
use Rattle.std.specs.Str.{bytes_eq}
use Rattle.sut_records.specs.FirstFault.{and_then, fault_as, only_if}
use Rattle.sut_tables.specs.ProblemFacts.{ProblemFacts}
use Rattle.sut_edits.specs.Edits.{edited}
use Rattle.sut_edits.specs.EditsFile.{at_line}
use Rattle.sut_edits.specs.declared.edits.Edit.{Edit}
use Rattle.sut_edits.specs.declared.edits.Edit.TheVariants as edit
use Rattle.sut_edits.specs.declared.edits.EditLine.{EditLine}
use Rattle.sut_edits.specs.declared.faults.EditFault.{EditFault}
use Rattle.sut_edits.specs.declared.faults.EditFault.TheVariants as refused
use Rattle.sut_edits.specs.declared.faults.EditsCause.{EditsCause}
use Rattle.sut_edits.specs.declared.faults.EditsCause.TheVariants as cause
use Rattle.sut_edits.specs.declared.faults.EditsFault.{EditsFault}
use Rattle.sut_review.specs.Seats.{SeatFacts}
use Rattle.sut_editing.specs.declared.faults.EditingFault.{EditingFault}
use Rattle.sut_editing.specs.declared.faults.EditingFault.TheVariants.{Refused, NoMemory}

-- The rows are balanced as they are then, at this line or at the end, after these edits of rows since they were last balanced;
-- or the first standing reviewer with a label is dismissed.
pub data Moment : Type 0 where
  rebalance : Option ℕ → List Edit → ProblemFacts → Moment
  dismissal : List ℕ → Moment

-- what a run of edits has come to: the rows, the labels of the reviewers that stand, the edits of rows since the rows were last
-- balanced, what has happened, and whether the last line balanced the rows
pub record Stage : Type 0 where
  pub problem : ProblemFacts
  pub labels : List (List ℕ)
  pub since : List Edit
  pub moments : List Moment
  pub marked : Bool

-- the labels of the reviewers that stand, in the order in which they were handed in
abbrev pub standing_labels : List SeatFacts → List (List ℕ)
standing_labels [] = []
standing_labels (seat ∷ seats) = if is_some seat.standing then seat.label ∷ standing_labels seats else standing_labels seats

abbrev pub has_label : List ℕ → List (List ℕ) → Bool
has_label label labels = list_any (λ l. bytes_eq l label) labels

-- without the first of them that is this label
abbrev pub without_first : List ℕ → List (List ℕ) → List (List ℕ)
without_first label [] = []
without_first label (l ∷ labels) = if bytes_eq l label then labels else l ∷ without_first label labels

-- why an edit is no step, as the cause of a refused line
abbrev pub refused_cause : EditFault → EditsCause
refused_cause refused.NoRow = cause.NoRow
refused_cause refused.RowThere = cause.RowThere
refused_cause refused.Full = cause.Full
refused_cause refused.NoMemory = cause.NoMemory

abbrev pub rows_edited : Stage → Edit → Result Stage EditsCause
rows_edited s e =
    and_then (fault_as refused_cause (edited s.problem e))
    (λ q. Ok (record s { problem = q; since = s.since ++ e ∷ []; marked = false }))

abbrev pub rows_balanced : Option ℕ → Stage → Stage
rows_balanced place s = record s { since = []; moments = s.moments ++ rebalance place s.since s.problem ∷ []; marked = true }

abbrev pub reviewer_dismissed : List ℕ → Stage → Stage
reviewer_dismissed label s =
    record s { labels = without_first label s.labels; moments = s.moments ++ dismissal label ∷ []; marked = false }

-- the edit of line n is taken
unfoldable pub edit_taken : ℕ → Edit → Stage → Result Stage EditsCause
edit_taken n (edit.Set r) s = rows_edited s (edit.Set r)
edit_taken n (edit.Add r) s = rows_edited s (edit.Add r)
edit_taken n (edit.Drop m) s = rows_edited s (edit.Drop m)
edit_taken n edit.Balance s = Ok (rows_balanced (Some n) s)
edit_taken n (edit.Dismiss label) s = only_if (has_label label s.labels) cause.NoReviewer (Ok (reviewer_dismissed label s))

abbrev pub line_taken : EditLine → Stage → Result Stage EditsFault
line_taken l s = at_line l.line (edit_taken l.line l.edit s)

-- the lines are taken in order, up to the first that is refused
unfoldable pub lines_taken : List EditLine → Stage → Result Stage EditsFault
lines_taken [] s = Ok s
lines_taken (l ∷ lines) s = and_then (line_taken l s) (λ next. lines_taken lines next)

-- what happens, in order, and the rows after all edits
pub record Moments : Type 0 where
  pub list : List Moment
  pub last : ProblemFacts

abbrev pub stage_at_first : List (List ℕ) → ProblemFacts → Stage
stage_at_first labels p = record { problem = p; labels = labels; since = []; moments = []; marked = false }

-- where the last line doesn't balance the rows, or there is none, they are balanced once more at the end
abbrev pub stage_at_end : Stage → Stage
stage_at_end s = if s.marked then s else rows_balanced None s

abbrev pub moments_in : Stage → Moments
moments_in s = record { list = s.moments; last = s.problem }

-- what happens in a run of these edits, with reviewers of these labels; or the first edit that is refused
unfoldable pub moments_of : List (List ℕ) → ProblemFacts → List EditLine → Result Moments EditsFault
moments_of labels p lines = and_then (lines_taken lines (stage_at_first labels p)) (λ s. Ok (moments_in (stage_at_end s)))

-- ---- what the code answers

-- the edit of a line that is no step
abbrev pub refusal : ℕ → EditFault → EditingFault
refusal n refused.NoMemory = NoMemory
refusal n f = Refused (record { line = n; cause = refused_cause f })

-- a fact on a refused line
abbrev pub IfRefused : EditingFault → (EditsFault → Type 0) → Type 0
IfRefused (Refused f) P = P f
IfRefused NoMemory P = Unit {0}
