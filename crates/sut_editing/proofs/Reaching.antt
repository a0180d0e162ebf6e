-- How each edit leads from one stage of a run to the next.
use Rattle.std.proofs.Common.{◌≡◌, ◌≢◌, ◌≤◌, ◌<◌, ◌∙◌, ℕ, ◌+◌, List, [], ◌∷◌, ◌++◌, Bool, true, false, Option, Some, None, Result, Ok, Err, All, drop, get_or, length, map, refl, sym, ap, subst, add-one, arith}
use Rattle.std.specs.Prelude.{IfSome, IsTrue}
use Rattle.std.proofs.lemmas.List.{drop_all, map-append}
use Rattle.std.proofs.Math.Seq.{drop-cons}
use Rattle.std.proofs.lemmas.List.Elements.{All-push}
use Rattle.sut_records.specs.FirstFault.{and_then, fault_as, only_if}
use Rattle.sut_tables.specs.ProblemFacts.{ProblemFacts}
use Rattle.sut_edits.specs.Edits.{edited}
use Rattle.sut_edits.specs.EditsFile.{at_line}
use Rattle.sut_edits.specs.declared.faults.EditFault.{EditFault}
use Rattle.sut_edits.specs.declared.faults.EditFault.TheVariants as refused
use Rattle.sut_edits.specs.declared.edits.Edit.{Edit}
use Rattle.sut_edits.specs.declared.edits.Edit.TheVariants as edit
use Rattle.sut_edits.specs.declared.edits.EditLine.{EditLine}
use Rattle.sut_edits.specs.declared.faults.EditsCause.{EditsCause}
use Rattle.sut_edits.specs.declared.faults.EditsCause.TheVariants as cause
use Rattle.sut_edits.specs.declared.faults.EditsFault.{EditsFault}
use Rattle.sut_cert.specs.declared.answers.Answer.{Answer}
use Rattle.sut_review.specs.Seats.{SeatFacts, dismissed}
use Rattle.sut_session.specs.Following.{ChangesRows}
use Rattle.sut_session.specs.SessionFacts.{SessionFacts}
use Rattle.sut_editing.specs.declared.faults.EditingFault.{EditingFault}
use Rattle.sut_editing.specs.declared.faults.EditingFault.TheVariants.{Refused, NoMemory}
use Rattle.sut_editing.specs.Moments.{IfRefused, Stage, dismissal, edit_taken, has_label, line_taken, lines_taken, rebalance, refusal, refused_cause, reviewer_dismissed, rows_balanced, rows_edited, standing_labels, without_first}
use Rattle.sut_editing.specs.Events.{Event, HasRightAnswer, answered, dismissed_one, moment_in}
use Rattle.sut_editing.specs.Answered.{AreEventsOf, EndsWith}
use Rattle.sut_editing.specs.Shown.{seats_shown}
use Rattle.sut_write.specs.Screen.{rebalance_text}
use Rattle.sut_write.specs.Trail.{answer_lines}
use Rattle.sut_editing.specs.Reached.{IsReached, IsRebalanced, Kept, Reaches}
use Rattle.sut_editing.proofs.EventLists.{count-left, count-more, seats-left, seats-more, texts-left, texts-more, trail-left, trail-more}
use Rattle.sut_session.specs.SmallSets.{AfterSmallSet, KeepsBounds, StaysNear}
use Rattle.sut_editing.specs.Near.{last_table}
use Rattle.sut_editing.proofs.NearLast.{balanced-shown, left-shown, near-last, near-left, near-more, rows-shown}
use Rattle.sut_editing.proofs.Labels.{dismissed-labels, shown-labels}

-- a fault is the same whatever a step would have given
same-fault : {A B : Type 0} (n : ℕ) (c : EditsCause) (f : EditsFault) → at_line {A = A} n (Err c) ≡ Err f → at_line {A = B} n (Err c) ≡ Err f
same-fault {A} {B} n c f is = let is' : ◌≡◌ {A = Result A EditsFault} (Err (record { line = n; cause = c })) (Err f) = is in let same : record { line = n; cause = c } ≡ f = cc in ap (λ (x : EditsFault). Err x) same

still-refused : (n : ℕ) (f : EditsFault) (r : Result ProblemFacts EditsCause) (next : ProblemFacts → Result Stage EditsCause) → at_line n r ≡ Err f → at_line n (and_then r next) ≡ Err f
still-refused n f (Ok q) next is = absurd cc
still-refused n f (Err c) next is = same-fault n c f is

-- an edit that is no step is refused for its cause
pub refusal-of : (n : ℕ) (fault : EditFault) (r : Result ProblemFacts EditFault) → (fault ≢ refused.NoMemory → r ≡ Err fault) → IfRefused (refusal n fault) (λ f. at_line n (fault_as refused_cause r) ≡ Err f)
refusal-of n refused.NoMemory r is = tt
refusal-of n refused.NoRow r is = ap (λ x. at_line n (fault_as refused_cause x)) (is (λ e. cc))
refusal-of n refused.RowThere r is = ap (λ x. at_line n (fault_as refused_cause x)) (is (λ e. cc))
refusal-of n refused.Full r is = ap (λ x. at_line n (fault_as refused_cause x)) (is (λ e. cc))

pub untrue : (b : Bool) → b ≡ false → IsTrue b → ⊥
untrue true e t = cc
untrue false e t = cc

-- ---- the steps

taken-rows : (n : ℕ) (e : Edit) (s : Stage) → ChangesRows e → edit_taken n e s ≡ rows_edited s e
unfolding edit_taken
taken-rows n (edit.Set r) s c = refl
taken-rows n (edit.Add r) s c = refl
taken-rows n (edit.Drop m) s c = refl
taken-rows n edit.Balance s c = absurd c
taken-rows n (edit.Dismiss label) s c = absurd c

taken-balance : (n : ℕ) (s : Stage) → edit_taken n edit.Balance s ≡ Ok (rows_balanced (Some n) s)
unfolding edit_taken
taken-balance n s = refl

taken-dismiss : (n : ℕ) (label : List ℕ) (s : Stage) → edit_taken n (edit.Dismiss label) s ≡ only_if (has_label label s.labels) cause.NoReviewer (Ok (reviewer_dismissed label s))
unfolding edit_taken
taken-dismiss n label s = refl

module _ (first : List SeatFacts) (stage : Stage) (events : List Event) (old new : Kept) (r : IsReached first stage events old) where
  -- ---- an edit of rows

  edited-by : (e : Edit) (result : Result ProblemFacts EditsCause) → fault_as refused_cause (edited old.session.problem e) ≡ result
      → rows_edited stage e ≡ and_then result (λ q. Ok (record stage { problem = q; since = stage.since ++ e ∷ []; marked = false }))
  edited-by e result is = ap (λ (x : Result ProblemFacts EditsCause). and_then x (λ q. Ok (record stage { problem = q; since = stage.since ++ e ∷ []; marked = false }))) (ap (λ p. fault_as refused_cause (edited p e)) (sym r.problem) ∙ is)

  pub rows-refused : (l : EditLine) (f : EditsFault) → ChangesRows l.edit → at_line l.line (fault_as refused_cause (edited old.session.problem l.edit)) ≡ Err f → line_taken l stage ≡ Err f
  rows-refused l f changes is =
      ap (at_line l.line) (taken-rows l.line l.edit stage changes ∙ edited-by l.edit (fault_as refused_cause (edited old.session.problem l.edit)) refl)
      ∙ still-refused l.line f (fault_as refused_cause (edited old.session.problem l.edit)) (λ q. Ok (record stage { problem = q; since = stage.since ++ l.edit ∷ []; marked = false })) is

  pub rows-taken : (n : ℕ) (e : Edit) → ChangesRows e → fault_as refused_cause (edited old.session.problem e) ≡ Ok new.session.problem → (KeepsBounds old.session.problem e → new.session.kept ≡ old.session.kept)
      → new.seats ≡ old.seats → new.trail ≡ old.trail → new.lines ≡ old.lines → new.rebalances ≡ old.rebalances → new.marked ≡ false → Reaches first (edit_taken n e stage) new
  rows-taken n e changes is kept seats trail lines rebalances marked = record {
    stage = record stage { problem = new.session.problem; since = stage.since ++ e ∷ []; marked = false };
    events = events;
    is = taken-rows n e stage changes ∙ edited-by e (Ok new.session.problem) is;
    reached = record {
      problem = refl;
      labels = ap standing_labels seats ∙ r.labels;
      happened = r.happened;
      seats = seats ∙ r.seats;
      trail = trail ∙ r.trail;
      lines = lines ∙ r.lines;
      rebalances = rebalances ∙ r.rebalances;
      marked = marked;
      last = λ t. absurd (untrue new.marked marked t);
      shows = rows-shown (last_table None events) stage old.session new.session e (r.problem) kept r.shows;
    };
  }

  -- ---- a dismissal

  pub none-dismissed : (n : ℕ) (label : List ℕ) → has_label label (standing_labels old.seats) ≡ false → edit_taken n (edit.Dismiss label) stage ≡ Err cause.NoReviewer
  none-dismissed n label none =
      taken-dismiss n label stage ∙ ap (λ b. only_if b cause.NoReviewer (Ok (reviewer_dismissed label stage))) (ap (has_label label) (sym r.labels) ∙ none)

  pub one-dismissed : (n : ℕ) (label : List ℕ) → has_label label (standing_labels old.seats) ≡ true → new.session ≡ old.session
      → new.seats ≡ dismissed label old.seats → new.trail ≡ old.trail → new.lines ≡ old.lines → new.rebalances ≡ old.rebalances → new.marked ≡ false → Reaches first (edit_taken n (edit.Dismiss label) stage) new
  one-dismissed n label found session seats trail lines rebalances marked = record {
    stage = reviewer_dismissed label stage;
    events = events ++ dismissed_one label ∷ [];
    is = taken-dismiss n label stage ∙ ap (λ b. only_if b cause.NoReviewer (Ok (reviewer_dismissed label stage))) (ap (has_label label) (sym r.labels) ∙ found);
    reached = record {
      problem = ap (λ s. s.problem) session ∙ r.problem;
      labels = ap standing_labels seats ∙ dismissed-labels label old.seats ∙ ap (without_first label) r.labels;
      happened = record {
        same = map-append moment_in events (dismissed_one label ∷ []) ∙ ap (λ ms. ms ++ dismissal label ∷ []) r.happened.same;
        right = All-push HasRightAnswer events (dismissed_one label) r.happened.right tt;
        near = near-left label None events r.happened.near;
      };
      seats = seats ∙ ap (dismissed label) r.seats ∙ sym (seats-left label events first);
      trail = trail ∙ r.trail ∙ sym (trail-left label events);
      lines = lines ∙ r.lines ∙ sym (texts-left label events);
      rebalances = rebalances ∙ r.rebalances ∙ sym (count-left label events);
      marked = marked;
      last = λ t. absurd (untrue new.marked marked t);
      shows = left-shown label None events stage (reviewer_dismissed label stage) old.session new.session session r.shows refl refl;
    };
  }

  -- ---- a rebalance

  pub rows-rebalanced : (place : Option ℕ) (x : IsRebalanced place old new) → IsReached first (rows_balanced place stage) (events ++ answered place stage.since old.session.problem x.answer ∷ []) new
  rows-rebalanced place x =
      let p = old.session.problem in
      record {
        problem = x.problem ∙ r.problem;
        labels = ap standing_labels x.seats ∙ shown-labels p x.answer old.seats ∙ r.labels;
        happened = record {
          same = map-append moment_in events (answered place stage.since p x.answer ∷ []) ∙ (λ i. r.happened.same i ++ rebalance place stage.since (r.problem i) ∷ []);
          right = All-push HasRightAnswer events (answered place stage.since p x.answer) r.happened.right (record { right = x.is.right; infeasible = x.is.infeasible });
          near = near-more place stage.since p x.answer None events r.happened.near (near-last (last_table None events) stage old.session x.answer r.problem r.shows x.near);
        };
        seats = x.seats ∙ ap (seats_shown p x.answer) r.seats ∙ sym (seats-more place stage.since p x.answer events first);
        trail = x.trail ∙ ap (λ t. t ++ answer_lines (old.rebalances + 1) p x.answer) r.trail ∙ sym (trail-more place stage.since p x.answer events (old.rebalances + 1) (ap (λ n. n + 1) r.rebalances));
        lines = x.lines ∙ ap (λ t. t ++ rebalance_text place p x.answer) r.lines ∙ sym (texts-more place stage.since p x.answer events);
        rebalances = x.rebalances ∙ ap (λ n. n + 1) r.rebalances ∙ sym (count-more place stage.since p x.answer events);
        marked = x.marked;
        last = λ t. record {
          answer = x.answer;
          stands = x.stands;
          last = subst (λ q. EndsWith (events ++ answered place stage.since p x.answer ∷ []) q x.answer) (sym x.problem) (record {
            place = place;
            since = stage.since;
            before = events;
            are = refl;
          });
        };
        shows = balanced-shown place stage.since p x.answer None events (rows_balanced place stage) new.session refl (sym r.problem) x.is;
      }

  pub balance-taken : (n : ℕ) → IsRebalanced (Some n) old new → Reaches first (edit_taken n edit.Balance stage) new
  balance-taken n x = record {
    stage = rows_balanced (Some n) stage;
    events = events ++ answered (Some n) stage.since old.session.problem x.answer ∷ [];
    is = taken-balance n stage;
    reached = rows-rebalanced (Some n) x;
  }

-- ---- the edit of a line

at-the-line : (first : List SeatFacts) (l : EditLine) (e : Edit) (stage : Stage) (k : Kept) → l.edit ≡ e → Reaches first (edit_taken l.line e stage) k → Reaches first (line_taken l stage) k
at-the-line first l e stage k is x = record {
  stage = x.stage;
  events = x.events;
  is = ap (λ (d : Edit). at_line l.line (edit_taken l.line d stage)) is ∙ ap (at_line l.line) x.is;
  reached = x.reached;
}

pub line-balanced : (l : EditLine) (old new : Kept) → l.edit ≡ edit.Balance → IsRebalanced (Some l.line) old new → (first : List SeatFacts) (stage : Stage) (events : List Event) → IsReached first stage events old → Reaches first (line_taken l stage) new
line-balanced l old new is x first stage events r = at-the-line first l edit.Balance stage new is (balance-taken first stage events old new r l.line x)

pub line-dismissed : (l : EditLine) (label : List ℕ) (old new : Kept) → l.edit ≡ edit.Dismiss label → has_label label (standing_labels old.seats) ≡ true → new.session ≡ old.session
    → new.seats ≡ dismissed label old.seats → new.trail ≡ old.trail → new.lines ≡ old.lines → new.rebalances ≡ old.rebalances → new.marked ≡ false
    → (first : List SeatFacts) (stage : Stage) (events : List Event) → IsReached first stage events old → Reaches first (line_taken l stage) new
line-dismissed l label old new is found session seats trail lines rebalances marked first stage events r =
    at-the-line first l (edit.Dismiss label) stage new is (one-dismissed first stage events old new r l.line label found session seats trail lines rebalances marked)

pub line-not-dismissed : (l : EditLine) (label : List ℕ) (old : Kept) (fault : EditingFault) → l.edit ≡ edit.Dismiss label → (fault ≡ Refused (record { line = l.line; cause = cause.NoReviewer })) × (has_label label (standing_labels old.seats) ≡ false)
    → IfRefused fault (λ f. (first : List SeatFacts) (stage : Stage) (events : List Event) → IsReached first stage events old → line_taken l stage ≡ Err f)
line-not-dismissed l label old fault is x =
    subst (λ y. IfRefused y (λ f. (first : List SeatFacts) (stage : Stage) (events : List Event) → IsReached first stage events old → line_taken l stage ≡ Err f)) (sym x.0)
    (λ first stage events r. ap (λ (d : Edit). at_line l.line (edit_taken l.line d stage)) is ∙ ap (at_line l.line) (none-dismissed first stage events old old r l.line label x.1))

pub line-edited : (l : EditLine) (old new : Kept) → ChangesRows l.edit → edited old.session.problem l.edit ≡ Ok new.session.problem → (KeepsBounds old.session.problem l.edit → new.session.kept ≡ old.session.kept)
    → new.seats ≡ old.seats → new.trail ≡ old.trail → new.lines ≡ old.lines → new.rebalances ≡ old.rebalances → new.marked ≡ false
    → (first : List SeatFacts) (stage : Stage) (events : List Event) → IsReached first stage events old → Reaches first (line_taken l stage) new
line-edited l old new changes is kept seats trail lines rebalances marked first stage events r =
    at-the-line first l l.edit stage new refl (rows-taken first stage events old new r l.line l.edit changes (ap (fault_as refused_cause) is) kept seats trail lines rebalances marked)

pub line-not-edited : (l : EditLine) (old : Kept) (fault : EditingFault) → ChangesRows l.edit → IfRefused fault (λ f. at_line l.line (fault_as refused_cause (edited old.session.problem l.edit)) ≡ Err f)
    → IfRefused fault (λ f. (first : List SeatFacts) (stage : Stage) (events : List Event) → IsReached first stage events old → line_taken l stage ≡ Err f)
line-not-edited l old (Refused f) changes h = λ first stage events r. rows-refused first stage events old old r l f changes h
line-not-edited l old NoMemory changes h = tt

-- ---- the lines

no-lines : (s : Stage) → lines_taken [] s ≡ Ok s
unfolding lines_taken
no-lines s = refl

next-line : (l : EditLine) (lines : List EditLine) (s : Stage) → lines_taken (l ∷ lines) s ≡ and_then (line_taken l s) (λ next. lines_taken lines next)
unfolding lines_taken
next-line l lines s = refl

-- a stage from which the lines that are left give the whole
pub record ReachesSo (first : List SeatFacts) (whole : Result Stage EditsFault) (rest : List EditLine) (k : Kept) : Type 0 where
  pub stage : Stage
  pub events : List Event
  pub is : lines_taken rest stage ≡ whole
  pub reached : IsReached first stage events k

module _ (first : List SeatFacts) (whole : Result Stage EditsFault) (lines : List EditLine) where
  pub so-next : (i : ℕ) (l : EditLine) (old new : Kept) → i < length lines → l ≡ get_or lines i l → ReachesSo first whole (drop i lines) old
      → ((stage : Stage) (events : List Event) → IsReached first stage events old → Reaches first (line_taken l stage) new) → ReachesSo first whole (drop (i + 1) lines) new
  so-next i l old new below is so step =
      let at : drop i lines ≡ l ∷ drop (i + 1) lines = drop-cons lines i l below ∙ (λ j. sym is j ∷ drop (sym (add-one i) j) lines) in
      let x = step so.stage so.events so.reached in
      record {
        stage = x.stage;
        events = x.events;
        is = sym (ap (λ ls. lines_taken ls so.stage) at ∙ next-line l (drop (i + 1) lines) so.stage ∙ ap (λ r. and_then r (λ next. lines_taken (drop (i + 1) lines) next)) x.is) ∙ so.is;
        reached = x.reached;
      }

  pub so-refused : (i : ℕ) (l : EditLine) (old : Kept) (f : EditsFault) → i < length lines → l ≡ get_or lines i l → ReachesSo first whole (drop i lines) old
      → ((stage : Stage) (events : List Event) → IsReached first stage events old → line_taken l stage ≡ Err f) → whole ≡ Err f
  so-refused i l old f below is so step =
      let at : drop i lines ≡ l ∷ drop (i + 1) lines = drop-cons lines i l below ∙ (λ j. sym is j ∷ drop (sym (add-one i) j) lines) in
      sym so.is ∙ ap (λ ls. lines_taken ls so.stage) at ∙ next-line l (drop (i + 1) lines) so.stage ∙ ap (λ r. and_then r (λ next. lines_taken (drop (i + 1) lines) next)) (step so.stage so.events so.reached)

  pub so-ended : (i : ℕ) (k : Kept) → length lines ≤ i → ReachesSo first whole (drop i lines) k → Reaches first whole k
  so-ended i k past so = record {
    stage = so.stage;
    events = so.events;
    is = sym so.is ∙ ap (λ ls. lines_taken ls so.stage) (drop_all i lines past) ∙ no-lines so.stage;
    reached = so.reached;
  }

-- ---- a rebalance that was made

-- the answer that is given is the one that stands
pub standing-answer : (P : Answer → Type 0) (o : Option Answer) (a : Answer) → Some a ≡ o → IfSome o P → P a
standing-answer P o a e h = subst (λ x. IfSome x P) (sym e) h

-- and so is what holds of it after a small set
pub near-standing : (old new : SessionFacts) (a : Answer) → Some a ≡ new.answer → new.problem ≡ old.problem → AfterSmallSet old (λ t m d. IfSome new.answer (StaysNear new.problem t m d)) → AfterSmallSet old (λ t m d. StaysNear old.problem t m d a)
near-standing old new a stands problem near k is before t show r d small =
    subst (λ (p : ProblemFacts). StaysNear p t r.measure d a) problem (standing-answer (StaysNear new.problem t r.measure d) new.answer a stands (near k is before t show r d small))
