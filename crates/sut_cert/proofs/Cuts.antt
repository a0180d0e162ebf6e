-- A set of accounts that contradicts shows a problem impossible.
use Rattle.std.proofs.Common.{◌≡◌, ℤ, pos, negsuc, ◌+ℤ◌, ◌-ℤ◌, ◌*ℤ◌, List, [], ◌∷◌, refl, sym, ◌∙◌, ap, subst, arith, Bool, true, false, Option, None, Some}
use Rattle.std.specs.Prelude.{All, IsNone}
use Rattle.std.proofs.lemmas.Int.{ints}
use Rattle.sut_measures.specs.declared.measures.Measure.{Measure}
use Rattle.sut_tables.specs.RowFacts.{RowFacts}
use Rattle.sut_tables.specs.ProblemFacts.{ProblemFacts}
use Rattle.sut_tables.specs.Values.{int_sum_by}
use Rattle.sut_tables.specs.Problems.{IsProblem, groups, live_measures, row_at}
use Rattle.sut_tables.proofs.Nodes.{where_so}
use Rattle.std.specs.Prelude.{◌&&◌, not, ◌≤ℤ◌, ◌<ℤ◌}
use Rattle.std.proofs.lemmas.List.Elements.{All-head, All-tail}
use Rattle.std.proofs.Math.IntN.{*ℤ_comm, *ℤ-zero}
use Rattle.sut_measures.specs.Ends.{left, entered}
use Rattle.sut_measures.specs.declared.accounts.Account.{Account}
use Rattle.sut_tables.specs.Values.{value_of}
use Rattle.sut_tables.specs.Costs.{IsWithin, IsImpossible}
use Rattle.sut_tables.proofs.Paths.{rise_of, one-*ℤ, minus_one-*ℤ}
use Rattle.sut_tables.proofs.Nodes.{sum-sub}
use Rattle.sut_tables.proofs.Conservation.{conservation}
use Rattle.sut_cert.specs.Certificates.{has_account, enters, leaves, entering, leaving, Contradicts}
use Rattle.sut_tables.proofs.Lists.{sum-same-all}
use Rattle.sut_cert.proofs.Rows.{if_row, live-to-rows}

pub sum-order : {X : Type 0} (f g : X → ℤ) (P : X → Type 0) → ((x : X) → P x → f x ≤ℤ g x) → (xs : List X) → All P xs → int_sum_by f xs ≤ℤ int_sum_by g xs
sum-order f g P e [] a = omega (arith, ints)
sum-order f g P e (x ∷ xs) a = joined (f x) (g x) (int_sum_by f xs) (int_sum_by g xs) (e x (All-head P x xs a)) (sum-order f g P e xs (All-tail P x xs a))
  where
    joined : (a b c d : ℤ) → a ≤ℤ b → c ≤ℤ d → (a +ℤ c) ≤ℤ (b +ℤ d)
    joined a b c d h k = omega (arith, ints)

times_one : (k : ℤ) → k *ℤ pos 1 ≡ k
times_one k = *ℤ_comm k (pos 1) ∙ one-*ℤ k

times_minus_one : (k : ℤ) → k *ℤ negsuc 0 ≡ pos 0 -ℤ k
times_minus_one k = *ℤ_comm k (negsuc 0) ∙ minus_one-*ℤ k ∙ omega (arith, ints)

-- 1 inside the set and 0 outside
inside : List Account → Account → ℤ
inside set a = where_so (has_account set a) (pos 1)

row_flow : (e l : Bool) (x lo hi : ℤ) → lo ≤ℤ x → x ≤ℤ hi
    → (where_so (e && not l) lo -ℤ where_so (l && not e) hi) ≤ℤ (x *ℤ (where_so e (pos 1) -ℤ where_so l (pos 1)))
row_flow true true x lo hi h k = rw (*ℤ-zero x) (omega (arith, ints))
row_flow true false x lo hi h k = rw (times_one x) (omega (arith, ints))
row_flow false true x lo hi h k = rw (times_minus_one x) (omega (arith, ints))
row_flow false false x lo hi h k = rw (*ℤ-zero x) (omega (arith, ints))

-- A set that contradicts leaves no admissible table.
pub contradiction-impossible : (p : ProblemFacts) → IsProblem p → (set : List Account) → Contradicts p set → IsImpossible p
unfolding inside
contradiction-impossible p ok set con t adm =
    let gs = groups p in
    let F : Measure → ℤ = λ m. value_of t m *ℤ rise_of gs (inside set) m in
    let flows : int_sum_by (λ (r : RowFacts). F r.measure) p.rows ≡ pos 0 =
    sym (live-to-rows p ok F)
    ∙ sym (sum-same-all (λ m. IsNone (row_at p m) → has_account set (left gs m) ≡ has_account set (entered gs m)) F (λ m. if_row F m (row_at p m))
    (λ m h. by m (row_at p m) h) (live_measures p) con.uncrossed)
    ∙ conservation p t ok adm.of_problem adm.identities (inside set) in
    let order : int_sum_by (λ (r : RowFacts). where_so (enters gs set r.measure) r.lower -ℤ where_so (leaves gs set r.measure) r.upper) p.rows ≤ℤ int_sum_by (λ (r : RowFacts). F r.measure) p.rows =
    sum-order (λ (r : RowFacts). where_so (enters gs set r.measure) r.lower -ℤ where_so (leaves gs set r.measure) r.upper) (λ (r : RowFacts). F r.measure) (IsWithin t)
    (λ r w. row_flow (has_account set (entered gs r.measure)) (has_account set (left gs r.measure)) (value_of t r.measure) r.lower r.upper w.above w.below) p.rows adm.bounds in
    clash (entering p set) (leaving p set) (int_sum_by (λ (r : RowFacts). F r.measure) p.rows)
    (subst (λ z. z ≤ℤ int_sum_by (λ (r : RowFacts). F r.measure) p.rows) (sum-sub (λ (r : RowFacts). where_so (enters gs set r.measure) r.lower) (λ (r : RowFacts). where_so (leaves gs set r.measure) r.upper) p.rows) order)
    flows con.gap
  where
    clash : (e l z : ℤ) → (e -ℤ l) ≤ℤ z → z ≡ pos 0 → l <ℤ e → ⊥
    clash e l z h k g = omega (arith, ints)

    by : (m : Measure) (o : Option RowFacts) → (IsNone o → has_account set (left (groups p) m) ≡ has_account set (entered (groups p) m))
        → value_of t m *ℤ rise_of (groups p) (inside set) m ≡ if_row (λ m. value_of t m *ℤ rise_of (groups p) (inside set) m) m o
    by m None h = ap (λ z. value_of t m *ℤ z) (flat (has_account set (entered (groups p) m)) (has_account set (left (groups p) m)) (sym (h refl))) ∙ *ℤ-zero (value_of t m)
      where
        flat : (e l : Bool) → e ≡ l → where_so e (pos 1) -ℤ where_so l (pos 1) ≡ pos 0
        flat true true e = refl
        flat false false e = refl
        flat true false e = cc
        flat false true e = cc
    by m (Some r) h = refl
