-- Tables near the one before them, and what the session keeps of it.
use Rattle.std.proofs.Common.{◌≡◌, ◌∙◌, ℕ, ℤ, List, [], ◌∷◌, ◌++◌, false, Option, Some, None, refl, sym, ap, subst}
use Rattle.sut_measures.specs.declared.accounts.Account.{Account}
use Rattle.sut_tables.specs.ProblemFacts.{ProblemFacts}
use Rattle.sut_tables.specs.RowFacts.{RowFacts}
use Rattle.sut_tables.specs.TableFacts.{TableFacts}
use Rattle.sut_edits.specs.declared.edits.Edit.{Edit}
use Rattle.sut_edits.specs.declared.edits.Edit.TheVariants as edit
use Rattle.sut_cert.specs.Certificates.{ShowsLeast}
use Rattle.sut_cert.specs.declared.answers.Answer.{Answer}
use Rattle.sut_cert.specs.declared.answers.Answer.TheVariants as answer
use Rattle.sut_session.specs.SessionFacts.{KeptNumbers, SessionFacts}
use Rattle.sut_session.specs.SmallSets.{AfterSmallSet, HasBounds, IsSmallSet, KeepsBounds, StaysNear}
use Rattle.sut_session.specs.Standing.{IsAnswerTo, IsKeptAs}
use Rattle.sut_editing.specs.Moments.{Stage}
use Rattle.sut_editing.specs.Events.{Event, answered, dismissed_one}
use Rattle.sut_editing.specs.Near.{IsNearLast, StayNear, last_table, table_of}
use Rattle.sut_editing.specs.Reached.{ShowsKept, ShowsLast}

-- ---- one event more

module _ (place : Option ℕ) (since : List Edit) (p : ProblemFacts) (a : Answer) where
  pub near-more : (last : Option (ProblemFacts × TableFacts)) (events : List Event) → StayNear last events → IsNearLast (last_table last events) since (table_of p a) → StayNear last (events ++ answered place since p a ∷ [])
  near-more last [] near here = (here, tt)
  near-more last (answered x s q b ∷ events) near here = (near.0, near-more (table_of q b) events near.1 here)
  near-more last (dismissed_one l ∷ events) near here = near-more last events near here

  last-more : (last : Option (ProblemFacts × TableFacts)) (events : List Event) → last_table last (events ++ answered place since p a ∷ []) ≡ table_of p a
  last-more last [] = refl
  last-more last (answered x s q b ∷ events) = last-more (table_of q b) events
  last-more last (dismissed_one l ∷ events) = last-more last events

module _ (label : List ℕ) where
  pub near-left : (last : Option (ProblemFacts × TableFacts)) (events : List Event) → StayNear last events → StayNear last (events ++ dismissed_one label ∷ [])
  near-left last [] near = tt
  near-left last (answered x s q b ∷ events) near = (near.0, near-left (table_of q b) events near.1)
  near-left last (dismissed_one l ∷ events) near = near-left last events near

  last-left : (last : Option (ProblemFacts × TableFacts)) (events : List Event) → last_table last (events ++ dismissed_one label ∷ []) ≡ last_table last events
  last-left last [] = refl
  last-left last (answered x s q b ∷ events) = last-left (table_of q b) events
  last-left last (dismissed_one l ∷ events) = last-left last events

-- ---- what the session keeps

not-pushed : (xs : List Edit) (x : Edit) → xs ++ x ∷ [] ≡ [] → ⊥
not-pushed [] x e = cc
not-pushed (y ∷ xs) x e = cc

one-pushed : (xs : List Edit) (x y : Edit) → xs ++ x ∷ [] ≡ y ∷ [] → (xs ≡ []) × (x ≡ y)
one-pushed [] x y e = let same : x ≡ y = cc in (refl, same)
one-pushed (z ∷ xs) x y e = let rest : xs ++ x ∷ [] ≡ [] = cc in absurd (not-pushed xs x rest)

-- after an edit of rows
pub rows-shown : (last : Option (ProblemFacts × TableFacts)) (stage : Stage) (old new : SessionFacts) (e : Edit) → old.problem ≡ stage.problem → (KeepsBounds old.problem e → new.kept ≡ old.kept) → ShowsLast last stage old
    → ShowsLast last (record stage { problem = new.problem; since = stage.since ++ e ∷ []; marked = false }) new
rows-shown None stage old new e problem kept shows = tt
rows-shown (Some last) stage old new e problem kept shows = ((λ none. absurd (not-pushed stage.since e none)), moved)
  where
    moved : (r : RowFacts) → stage.since ++ e ∷ [] ≡ edit.Set r ∷ [] → HasBounds last.0 r → ShowsKept last.0 last.1 new.kept
    moved r one bounds =
        let parts = one-pushed stage.since e (edit.Set r) one in
        let fresh = shows.0 parts.0 in
        let keeps : KeepsBounds old.problem e = subst (KeepsBounds old.problem) (sym parts.1) (subst (λ (p : ProblemFacts). HasBounds p r) (sym (problem ∙ fresh.0)) bounds) in
        record { numbers = fresh.1.numbers; are = kept keeps ∙ fresh.1.are; show = fresh.1.show }

-- after a dismissal
pub left-shown : (label : List ℕ) (last : Option (ProblemFacts × TableFacts)) (events : List Event) (stage next : Stage) (old new : SessionFacts) → new ≡ old → ShowsLast (last_table last events) stage old
    → next.since ≡ stage.since → next.problem ≡ stage.problem → ShowsLast (last_table last (events ++ dismissed_one label ∷ [])) next new
left-shown label last events stage next old new same shows since problem =
    subst (λ o. ShowsLast o next new) (sym (last-left label last events)) (by (last_table last events) shows)
  where
    by : (o : Option (ProblemFacts × TableFacts)) → ShowsLast o stage old → ShowsLast o next new
    by None h = tt
    by (Some t) h = (
      (λ none. let x = h.0 (sym since ∙ none) in (problem ∙ x.0, subst (λ (s : SessionFacts). ShowsKept t.0 t.1 s.kept) (sym same) x.1)),
      (λ r one bounds. subst (λ (s : SessionFacts). ShowsKept t.0 t.1 s.kept) (sym same) (h.1 r (sym since ∙ one) bounds)),
    )

-- a balanced answer is kept
kept-shown : (p : ProblemFacts) (t : TableFacts) (ps : List (Account × ℤ)) (kept : Option KeptNumbers) → ShowsLeast p t ps → IsKeptAs p kept (answer.Balanced t ps) → ShowsKept p t kept
kept-shown p t ps (Some k) shown is = record { numbers = k; are = refl; show = record { numbers = is.0; shown = subst (ShowsLeast p t) is.1 shown } }
kept-shown p t ps None shown is = absurd is

-- after a rebalance
pub balanced-shown : (place : Option ℕ) (since : List Edit) (p : ProblemFacts) (a : Answer) (last : Option (ProblemFacts × TableFacts)) (events : List Event) (next : Stage) (new : SessionFacts) → next.since ≡ [] → next.problem ≡ p → IsAnswerTo p new.kept a
    → ShowsLast (last_table last (events ++ answered place since p a ∷ [])) next new
balanced-shown place since p a last events next new none problem is =
    subst (λ o. ShowsLast o next new) (sym (last-more place since p a last events)) (by a is)
  where
    by : (b : Answer) → IsAnswerTo p new.kept b → ShowsLast (table_of p b) next new
    by (answer.Infeasible set) x = tt
    by (answer.Balanced t ps) x = (
      (λ e. (problem, kept-shown p t ps new.kept x.right.shown x.kept_as)),
      (λ r one bounds. let e : ◌≡◌ {A = List Edit} [] (edit.Set r ∷ []) = sym none ∙ one in absurd cc),
    )

-- ---- near the table before

has-bounds : (before after : ProblemFacts) (r : RowFacts) (d : ℕ) → IsSmallSet before after r d → HasBounds before r
has-bounds before after r d small = record { old = small.old; was = small.was; lower = ap (λ (x : RowFacts). x.lower) small.moved; upper = ap (λ (x : RowFacts). x.upper) small.moved }

pub near-last : (last : Option (ProblemFacts × TableFacts)) (stage : Stage) (s : SessionFacts) (a : Answer) → s.problem ≡ stage.problem → ShowsLast last stage s → AfterSmallSet s (λ t m d. StaysNear s.problem t m d a) → IsNearLast last stage.since (table_of s.problem a)
near-last None stage s a problem shows near = tt
near-last (Some last) stage s (answer.Infeasible set) problem shows near = tt
near-last (Some last) stage s (answer.Balanced t ps) problem shows near =
    λ r d one small. let kept = shows.1 r one (has-bounds last.0 s.problem r d small) in near kept.numbers kept.are last.0 last.1 kept.show r d small
