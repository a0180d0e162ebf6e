-- What the step of an edit keeps of a problem.
use Rattle.std.proofs.Common.{◌≡◌, ◌∙◌, List, Bool, true, false, Option, Result, Ok, Err, All, map, filter, refl, sym, ap, subst}
use Rattle.std.specs.Prelude.{if◌then◌else◌, is_some, not}
use Rattle.std.proofs.lemmas.List.Elements.{All-cons, All-filter, All-head, All-map, All-nil, All-tail, All-weaker}
use Rattle.sut_settings.specs.SettingsFacts.{SettingsFacts}
use Rattle.sut_source.specs.SourceText.{HasGrade}
use Rattle.sut_measures.specs.Keys.{measure_key}
use Rattle.sut_measures.specs.declared.measures.Measure.{Measure}
use Rattle.sut_tables.specs.Changes.{has_room, is_of, row_removed, row_replaced, with_row}
use Rattle.sut_tables.specs.ProblemFacts.{ProblemFacts}
use Rattle.sut_tables.specs.Problems.{row_at}
use Rattle.sut_tables.specs.RowFacts.{RowFacts}
use Rattle.sut_tables.proofs.Lists.{All-put}
use Rattle.sut_edits.specs.Edits.{edited}
use Rattle.sut_edits.specs.EditRules.{IsGraded}
use Rattle.sut_edits.specs.declared.edits.Edit.{Edit}
use Rattle.sut_edits.specs.declared.edits.Edit.TheVariants as edit
use Rattle.sut_edits.specs.declared.faults.EditFault.{EditFault}
use Rattle.sut_edits.specs.declared.faults.EditFault.TheVariants as fault

ok-same : (x q : ProblemFacts) → ◌≡◌ {A = Result ProblemFacts EditFault} (Ok x) (Ok q) → x ≡ q
ok-same x q h = cc

from-if : (b : Bool) (x q : ProblemFacts) (e : EditFault) → (if b then Ok x else Err e) ≡ Ok q → x ≡ q
from-if true x q e h = ok-same x q h
from-if false x q e h = absurd cc

from-else : (b c : Bool) (x q : ProblemFacts) (e f : EditFault) → (if b then Err e else if c then Ok x else Err f) ≡ Ok q → x ≡ q
from-else true c x q e f h = absurd cc
from-else false c x q e f h = from-if c x q f h

-- the problem after an edit has these, where the problem before it does
kept-by : (P : ProblemFacts → Type 0) (p q : ProblemFacts) (e : Edit) → ((r : RowFacts) → e ≡ edit.Set r → P (row_replaced p r)) → ((r : RowFacts) → e ≡ edit.Add r → P (with_row p r)) → ((m : Measure) → e ≡ edit.Drop m → P (row_removed p m)) → P p → edited p e ≡ Ok q → P q
kept-by P p q (edit.Set r) set add out same h = subst P (from-if (is_some (row_at p r.measure)) (row_replaced p r) q fault.NoRow h) (set r refl)
kept-by P p q (edit.Add r) set add out same h = subst P (from-else (is_some (row_at p r.measure)) (has_room p r.measure) (with_row p r) q fault.RowThere fault.Full h) (add r refl)
kept-by P p q (edit.Drop m) set add out same h = subst P (from-if (is_some (row_at p m)) (row_removed p m) q fault.NoRow h) (out m refl)
kept-by P p q edit.Balance set add out same h = subst P (ok-same p q h) same
kept-by P p q (edit.Dismiss label) set add out same h = subst P (ok-same p q h) same

pub classes-kept : (p q : ProblemFacts) (e : Edit) → edited p e ≡ Ok q → q.classes ≡ p.classes
classes-kept p q e h = kept-by (λ (x : ProblemFacts). x.classes ≡ p.classes) p q e (λ r s. refl) (λ r s. refl) (λ m s. refl) refl h

module _ (s : SettingsFacts) where
  replaced : (r : RowFacts) (rows : List RowFacts) → HasGrade s r → All (HasGrade s) rows → All (HasGrade s) (map (λ x. if is_of r.measure x then r else x) rows)
  replaced r rows new all = All-map (HasGrade s) (λ x. if is_of r.measure x then r else x) rows (All-weaker (HasGrade s) (λ x. HasGrade s (if is_of r.measure x then r else x)) (λ x h. by x (is_of r.measure x) h) rows all)
    where
      by : (x : RowFacts) (b : Bool) → HasGrade s x → HasGrade s (if b then r else x)
      by x true h = new
      by x false h = h

  pub grades-kept : (p q : ProblemFacts) (e : Edit) → IsGraded s e → All (HasGrade s) p.rows → edited p e ≡ Ok q → All (HasGrade s) q.rows
  grades-kept p q e graded all h =
      kept-by (λ (x : ProblemFacts). All (HasGrade s) x.rows) p q e
      (λ r is. replaced r p.rows (subst (IsGraded s) is graded) all)
      (λ r is. All-put (HasGrade s) (λ (x : RowFacts). measure_key x.measure) r p.rows (subst (IsGraded s) is graded) all)
      (λ m is. All-filter (λ x. not (is_of m x)) (HasGrade s) p.rows all)
      all h
