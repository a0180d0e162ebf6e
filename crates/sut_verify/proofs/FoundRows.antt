-- The row of a measure, among the rows of a problem.
use Rattle.std.proofs.Common.{◌≡◌, List, [], ◌∷◌, Bool, true, false, if◌then◌else◌, Some, refl, subst}
use Rattle.std.specs.Prelude.{All, find}
use Rattle.std.proofs.lemmas.List.Elements.{All-head, All-tail}
use Rattle.sut_measures.specs.Keys.{measure_key}
use Rattle.sut_measures.specs.declared.measures.Measure.{Measure}
use Rattle.sut_measures.proofs.KeyLemmas.{measure_key-injective}
use Rattle.sut_tables.specs.RowFacts.{RowFacts}
use Rattle.sut_tables.specs.Rows.{InRange, IsRow}
use Rattle.sut_tables.specs.ProblemFacts.{ProblemFacts}
use Rattle.sut_tables.specs.TableFacts.{TableFacts}
use Rattle.sut_tables.specs.InOrder.{same_key}
use Rattle.sut_tables.specs.Costs.{IsAdmissible, IsWithin}
use Rattle.sut_tables.specs.Problems.{IsProblem, row_at}
use Rattle.sut_tables.specs.Values.{value_of}
use Rattle.sut_tables.proofs.Ordered.{same-eq}
use Rattle.sut_tables.proofs.Wide.{within-in_range}

-- what all rows have, the row of a measure has, and it is the measure's
found-row : (P : RowFacts → Type 0) (m : Measure) (r : RowFacts) (rows : List RowFacts) → All P rows
    → find (λ (q : RowFacts). same_key (measure_key q.measure) (measure_key m)) rows ≡ Some r → P r × (r.measure ≡ m)
found-row P m r [] all e = absurd cc
found-row P m r (q ∷ rows) all e = by (same_key (measure_key q.measure) (measure_key m)) refl e (found-row P m r rows (All-tail P q rows all))
  where
    same : Some q ≡ Some r → q ≡ r
    same e = cc

    by : (b : Bool) → same_key (measure_key q.measure) (measure_key m) ≡ b → (if b then Some q else find (λ (q : RowFacts). same_key (measure_key q.measure) (measure_key m)) rows) ≡ Some r
        → (find (λ (q : RowFacts). same_key (measure_key q.measure) (measure_key m)) rows ≡ Some r → P r × (r.measure ≡ m)) → P r × (r.measure ≡ m)
    by true k e rest =
        subst (λ (s : RowFacts). P s × (s.measure ≡ m)) (same e) (All-head P q rows all, measure_key-injective q.measure m (same-eq (measure_key q.measure) (measure_key m) k))
    by false k e rest = rest e

-- over an admissible table a measure that has a row has a value in range
pub value-in_range : (p : ProblemFacts) (t : TableFacts) (m : Measure) (r : RowFacts) → IsProblem p → IsAdmissible p t → row_at p m ≡ Some r → InRange (value_of t m)
value-in_range p t m r ok adm e =
    let found = found-row (λ q. IsRow q × IsWithin t q) m r p.rows (λ k d h. (ok.in_range k d h, adm.bounds k d h)) e in
    subst (λ n. InRange (value_of t n)) found.1 (within-in_range t r found.0.0 found.0.1)
