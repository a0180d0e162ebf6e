-- Where a run of edits begins and ends.
use Rattle.std.proofs.Common.{◌≡◌, ◌∙◌, ℕ, suc, List, [], ◌∷◌, ◌++◌, Bool, true, false, Option, Some, None, Result, Ok, Err, All, refl, sym, ap, subst, append-nil, arith}
use Rattle.std.specs.Prelude.{◌==◌, IsTrue, IsSomeAnd, if◌then◌else◌, map, length, not}
use Rattle.sut_records.specs.FirstFault.{and_then, fault_as, only_if}
use Rattle.sut_text.specs.Text.{line_text}
use Rattle.sut_tables.specs.ProblemFacts.{ProblemFacts}
use Rattle.sut_edits.specs.declared.edits.EditLine.{EditLine}
use Rattle.sut_edits.specs.declared.edits.Edit.{Edit}
use Rattle.sut_edits.specs.declared.edits.Edit.TheVariants as edit
use Rattle.sut_edits.specs.declared.faults.EditFault.{EditFault}
use Rattle.sut_edits.specs.declared.faults.EditsCause.{EditsCause}
use Rattle.sut_edits.specs.declared.faults.EditsCause.TheVariants as cause
use Rattle.sut_edits.specs.declared.faults.EditsFault.{EditsFault}
use Rattle.sut_edits.specs.Edits.{edited}
use Rattle.sut_edits.specs.EditsFile.{at_line}
use Rattle.sut_cert.specs.declared.answers.Answer.{Answer}
use Rattle.sut_cert.specs.declared.answers.Answer.TheVariants as answer
use Rattle.sut_review.specs.Seats.{SeatFacts, dismissed, ended, stands_with}
use Rattle.sut_write.specs.Trail.{trail_header}
use Rattle.sut_editing.specs.declared.faults.EditingFault.{EditingFault}
use Rattle.sut_editing.specs.declared.faults.EditingFault.TheVariants.{Refused, NoMemory}
use Rattle.sut_editing.specs.Moments.{IfRefused, Moment, Moments, Stage, edit_taken, has_label, line_taken, lines_taken, moments_in, moments_of, refused_cause, reviewer_dismissed, rows_balanced, stage_at_end, stage_at_first, standing_labels}
use Rattle.sut_editing.specs.Events.{Event, HasRightAnswer, IsAnswer, answered, dismissed_one}
use Rattle.sut_editing.specs.Answered.{AreEventsOf, EndsWith}
use Rattle.sut_editing.specs.Shown.{rebalances_text, seats_after, seats_shown, trail_text}
use Rattle.sut_editing.specs.Reached.{IsReached, IsRebalanced, Kept, LastAnswer, Reaches}
use Rattle.sut_editing.specs.EditedRows.{IsEdited, are_some, review_of}
use Rattle.sut_editing.proofs.Reaching.{rows-rebalanced, untrue}
use Rattle.sut_editing.proofs.Rows.{classes-kept}
use Rattle.std.proofs.lemmas.Bool.Decides.{nat_tests}
use Rattle.std.proofs.lemmas.List.Elements.{All-head, All-nil, All-tail}

-- ---- the end

pub marked-end : (first : List SeatFacts) (stage : Stage) (events : List Event) (k : Kept) → k.marked ≡ true → IsReached first stage events k → Reaches {F = EditsFault} first (Ok (stage_at_end stage)) k
marked-end first stage events k marked r = record {
  stage = stage;
  events = events;
  is = ap (λ b. Ok (if b then stage else rows_balanced None stage)) (sym r.marked ∙ marked);
  reached = r;
}

pub balanced-end : (first : List SeatFacts) (stage : Stage) (events : List Event) (old new : Kept) → old.marked ≡ false → IsRebalanced None old new → IsReached first stage events old → Reaches {F = EditsFault} first (Ok (stage_at_end stage)) new
balanced-end first stage events old new marked x r = record {
  stage = rows_balanced None stage;
  events = _;
  is = ap (λ b. Ok (if b then stage else rows_balanced None stage)) (sym r.marked ∙ marked);
  reached = rows-rebalanced first stage events old new r None x;
}

-- all lines were taken, and then the end
pub all-taken : (first : List SeatFacts) (lines : List EditLine) (stage : Stage) (old new : Kept) → Reaches first (lines_taken lines stage) old
    → ((s : Stage) (events : List Event) → IsReached first s events old → Reaches {F = EditsFault} first (Ok (stage_at_end s)) new) → Reaches first (and_then (lines_taken lines stage) (λ s. Ok (stage_at_end s))) new
all-taken first lines stage old new x end =
    let y = end x.stage x.events x.reached in
    record { stage = y.stage; events = y.events; is = ap (λ r. and_then r (λ s. Ok (stage_at_end s))) x.is ∙ y.is; reached = y.reached }

-- ---- the beginning

pub begun : (first : List SeatFacts) (p : ProblemFacts) (k : Kept) → k.session.problem ≡ p → k.seats ≡ first → k.trail ≡ line_text trail_header → k.lines ≡ [] → k.rebalances ≡ 0 → k.marked ≡ false
    → IsReached first (stage_at_first (standing_labels first) p) [] k
begun first p k problem seats trail lines rebalances marked = record {
  problem = problem;
  labels = ap standing_labels seats;
  happened = record { same = refl; right = All-nil HasRightAnswer; near = tt };
  seats = seats;
  trail = trail ∙ sym (append-nil (line_text trail_header));
  lines = lines;
  rebalances = rebalances;
  marked = marked;
  last = λ t. absurd (untrue k.marked marked t);
  shows = tt;
}

-- ---- the whole

moments-from : (r : Result Stage EditsFault) (s : Stage) → and_then r (λ x. Ok (stage_at_end x)) ≡ Ok s → and_then r (λ x. Ok (moments_in (stage_at_end x))) ≡ Ok (moments_in s)
moments-from (Ok x) s e = let same : ◌≡◌ {A = Result Stage EditsFault} (Ok (stage_at_end x)) (Ok s) = e in ap (λ (r : Result Stage EditsFault). and_then r (λ y. Ok (moments_in y))) same
moments-from (Err f) s e = absurd cc

moments-refused : (r : Result Stage EditsFault) (f : EditsFault) → r ≡ Err f → and_then r (λ x. Ok (moments_in (stage_at_end x))) ≡ Err f
moments-refused r f e = ap (λ (x : Result Stage EditsFault). and_then x (λ y. Ok (moments_in (stage_at_end y)))) e

pub refused-moments : (labels : List (List ℕ)) (p : ProblemFacts) (lines : List EditLine) (f : EditsFault) → lines_taken lines (stage_at_first labels p) ≡ Err f → moments_of labels p lines ≡ Err f
unfolding moments_of
refused-moments labels p lines f e = moments-refused (lines_taken lines (stage_at_first labels p)) f e

given-moments : (labels : List (List ℕ)) (p : ProblemFacts) (lines : List EditLine) (s : Stage) → and_then (lines_taken lines (stage_at_first labels p)) (λ x. Ok (stage_at_end x)) ≡ Ok s → moments_of labels p lines ≡ Ok (moments_in s)
unfolding moments_of
given-moments labels p lines s e = moments-from (lines_taken lines (stage_at_first labels p)) s e

pub edited-rows : (first : List SeatFacts) (p : ProblemFacts) (lines : List EditLine) (k : Kept) (review : Option (List ℕ)) → k.marked ≡ true → review ≡ review_of k.seats
    → Reaches first (and_then (lines_taken lines (stage_at_first (standing_labels first) p)) (λ s. Ok (stage_at_end s))) k
    → IsSomeAnd k.session.answer (λ a. IsEdited first p lines k.session.problem a k.trail k.lines review)
edited-rows first p lines k review marked reviewed x =
    let last = x.reached.last (subst IsTrue (sym marked) refl) in
    subst (λ o. IsSomeAnd o (λ a. IsEdited first p lines k.session.problem a k.trail k.lines review)) (sym last.stands) (record {
      moments = moments_in x.stage;
      events = x.events;
      are = given-moments (standing_labels first) p lines x.stage x.is;
      rows = x.reached.problem;
      happened = x.reached.happened;
      ends = last.last;
      trailed = x.reached.trail;
      prints = x.reached.lines;
      reviewed = reviewed ∙ ap review_of x.reached.seats;
    })

-- the last event has a right answer
all-last : {X : Type 0} (P : X → Type 0) (xs : List X) (x : X) → All P (xs ++ x ∷ []) → P x
all-last P [] x all = All-head P x [] all
all-last P (y ∷ xs) x all = all-last P xs x (All-tail P y (xs ++ x ∷ []) all)

pub right-last : (moments : List Moment) (events : List Event) (p : ProblemFacts) (a : Answer) → AreEventsOf moments events → EndsWith events p a → IsAnswer p a
right-last moments events p a happened ends = all-last HasRightAnswer ends.before (answered ends.place ends.since p a) (subst (All HasRightAnswer) ends.are happened.right)

-- ---- classes

edited-classes : (s x : Stage) (e : Edit) (r : Result ProblemFacts EditFault) → edited s.problem e ≡ r → and_then (fault_as refused_cause r) (λ q. Ok (record s { problem = q; since = s.since ++ e ∷ []; marked = false })) ≡ Ok x → x.problem.classes ≡ s.problem.classes
edited-classes s x e (Err f) is h = absurd cc
edited-classes s x e (Ok q) is h =
    let same : ◌≡◌ {A = Result Stage EditsCause} (Ok (record s { problem = q; since = s.since ++ e ∷ []; marked = false })) (Ok x) = h in
    let equal : record s { problem = q; since = s.since ++ e ∷ []; marked = false } ≡ x = cc in
    ap (λ (y : Stage). y.problem.classes) (sym equal) ∙ classes-kept s.problem q e is

step-classes : (n : ℕ) (e : Edit) (s x : Stage) → edit_taken n e s ≡ Ok x → x.problem.classes ≡ s.problem.classes
unfolding edit_taken
step-classes n (edit.Set r) s x h = edited-classes s x (edit.Set r) (edited s.problem (edit.Set r)) refl h
step-classes n (edit.Add r) s x h = edited-classes s x (edit.Add r) (edited s.problem (edit.Add r)) refl h
step-classes n (edit.Drop m) s x h = edited-classes s x (edit.Drop m) (edited s.problem (edit.Drop m)) refl h
step-classes n edit.Balance s x h =
    let same : ◌≡◌ {A = Result Stage EditsCause} (Ok (rows_balanced (Some n) s)) (Ok x) = h in let equal : rows_balanced (Some n) s ≡ x = cc in ap (λ (y : Stage). y.problem.classes) (sym equal)
step-classes n (edit.Dismiss label) s x h = by (has_label label s.labels) h
  where
    by : (b : Bool) → only_if b cause.NoReviewer (Ok (reviewer_dismissed label s)) ≡ Ok x → x.problem.classes ≡ s.problem.classes
    by false h = absurd cc
    by true h = let same : ◌≡◌ {A = Result Stage EditsCause} (Ok (reviewer_dismissed label s)) (Ok x) = h in let equal : reviewer_dismissed label s ≡ x = cc in ap (λ (y : Stage). y.problem.classes) (sym equal)

taken-classes : (n : ℕ) (e : Edit) (s t : Stage) (r : Result Stage EditsCause) → edit_taken n e s ≡ r → at_line n r ≡ Ok t → t.problem.classes ≡ s.problem.classes
taken-classes n e s t (Err c) is h = absurd cc
taken-classes n e s t (Ok x) is h = let same : ◌≡◌ {A = Result Stage EditsFault} (Ok x) (Ok t) = h in let equal : x ≡ t = cc in subst (λ (y : Stage). y.problem.classes ≡ s.problem.classes) equal (step-classes n e s x is)

line-classes : (l : EditLine) (s t : Stage) → line_taken l s ≡ Ok t → t.problem.classes ≡ s.problem.classes
line-classes l s t e = taken-classes l.line l.edit s t (edit_taken l.line l.edit s) refl e

-- the rows after all edits are of the same classes
lines-classes : (lines : List EditLine) (s t : Stage) → lines_taken lines s ≡ Ok t → t.problem.classes ≡ s.problem.classes
unfolding lines_taken
lines-classes [] s t e = let same : ◌≡◌ {A = Result Stage EditsFault} (Ok s) (Ok t) = e in let equal : s ≡ t = cc in ap (λ (x : Stage). x.problem.classes) (sym equal)
lines-classes (l ∷ lines) s t e = by (line_taken l s) refl e (lines-classes lines)
  where
    by : (r : Result Stage EditsFault) → line_taken l s ≡ r → and_then r (λ next. lines_taken lines next) ≡ Ok t → ((x y : Stage) → lines_taken lines x ≡ Ok y → y.problem.classes ≡ x.problem.classes) → t.problem.classes ≡ s.problem.classes
    by (Ok x) is h rest = rest x t h ∙ line-classes l s x is
    by (Err f) is h rest = absurd cc

end-classes : (s : Stage) → (stage_at_end s).problem.classes ≡ s.problem.classes
end-classes s = by s.marked
  where
    by : (b : Bool) → (if b then s else rows_balanced None s).problem.classes ≡ s.problem.classes
    by true = refl
    by false = refl

moments-classes : (labels : List (List ℕ)) (p : ProblemFacts) (lines : List EditLine) (m : Moments) (r : Result Stage EditsFault) → lines_taken lines (stage_at_first labels p) ≡ r → and_then r (λ x. Ok (moments_in (stage_at_end x))) ≡ Ok m → m.last.classes ≡ p.classes
moments-classes labels p lines m (Err f) is e = absurd cc
moments-classes labels p lines m (Ok s) is e =
    let same : ◌≡◌ {A = Result Moments EditsFault} (Ok (moments_in (stage_at_end s))) (Ok m) = e in
    let equal : moments_in (stage_at_end s) ≡ m = cc in
    ap (λ (x : Moments). x.last.classes) (sym equal) ∙ end-classes s ∙ lines-classes lines (stage_at_first labels p) s is

pub same-classes : (labels : List (List ℕ)) (p : ProblemFacts) (lines : List EditLine) (m : Moments) → moments_of labels p lines ≡ Ok m → m.last.classes ≡ p.classes
unfolding moments_of
same-classes labels p lines m e = moments-classes labels p lines m (lines_taken lines (stage_at_first labels p)) refl e

-- ---- reviewers handed in

shown-some : (p : ProblemFacts) (a : Answer) (seats : List SeatFacts) → are_some (seats_shown p a seats) ≡ are_some seats
shown-some p (answer.Balanced t ps) [] = refl
shown-some p (answer.Balanced t ps) (seat ∷ seats) = refl
shown-some p (answer.Infeasible set) seats = refl

dismissed-some : (label : List ℕ) (seats : List SeatFacts) → are_some (dismissed label seats) ≡ are_some seats
dismissed-some label [] = refl
dismissed-some label (seat ∷ seats) = by (stands_with label seat)
  where
    by : (b : Bool) → are_some (if b then ended seat ∷ seats else seat ∷ dismissed label seats) ≡ true
    by true = refl
    by false = refl

pub some-after : (events : List Event) (seats : List SeatFacts) → are_some (seats_after events seats) ≡ are_some seats
some-after [] seats = refl
some-after (answered place since p a ∷ events) seats = some-after events (seats_shown p a seats) ∙ shown-some p a seats
some-after (dismissed_one label ∷ events) seats = some-after events (dismissed label seats) ∙ dismissed-some label seats

-- the seats of a stage that was reached are some exactly where reviewers were handed in
pub still-some : (first : List SeatFacts) (r : Result Stage EditsFault) (k : Kept) (reviewed : Bool) → reviewed ≡ are_some first → Reaches first r k → reviewed ≡ are_some k.seats
still-some first r k reviewed e x = e ∙ sym (ap are_some x.reached.seats ∙ some-after x.events first)

-- the first refused line of all
pub all-refused : (first : List SeatFacts) (p : ProblemFacts) (lines : List EditLine) (k : Kept) (fault : EditingFault) → IsReached first (stage_at_first (standing_labels first) p) [] k
    → IfRefused fault (λ f. (seats : List SeatFacts) (stage : Stage) (events : List Event) → IsReached seats stage events k → lines_taken lines stage ≡ Err f) → IfRefused fault (λ f. moments_of (standing_labels first) p lines ≡ Err f)
all-refused first p lines k (Refused f) begins h = refused-moments (standing_labels first) p lines f (h first (stage_at_first (standing_labels first) p) [] begins)
all-refused first p lines k NoMemory begins h = tt

some-one : (n : ℕ) → (suc n == 0) ≡ false
some-one n = grind (arith, nat_tests)

-- whether a list that was handed in is empty tells whether there are reviewers
pub some-list : {X : Type 0} (f : X → SeatFacts) (xs : List X) (n : ℕ) (empty : Bool) → empty ≡ (n == 0) → n ≡ length xs → not empty ≡ are_some (map f xs)
some-list f [] n empty e len = ap not (e ∙ ap (λ m. m == 0) len)
some-list f (x ∷ xs) n empty e len = ap not (e ∙ ap (λ m. m == 0) len ∙ some-one (length xs))
