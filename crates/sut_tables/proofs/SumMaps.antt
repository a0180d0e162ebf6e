-- Numbers kept for sums, in a map: look-ups, and what changes write.
use Rattle.std.proofs.Common.{BTreeMap, ◌≡◌, ℕ, ℤ, pos, ◌+ℤ◌, List, [], ◌∷◌, Bool, true, false, cond, if◌then◌else◌, Option, Some, None, refl, sym, ◌∙◌, ap, subst, arith, to_z, of_z, ◌^◌}
use Rattle.std.specs.Prelude.{◌==◌, ◌<◌, nat_lt}
use Rattle.std.specs.Option.{option_map}
use Rattle.std.specs.declared.cmp.Ordering.{Ordering}
use Rattle.std.specs.declared.cmp.Ordering.TheVariants.{Less, Equal, Greater}
use Rattle.std.specs.Ordering.{is_eq, nat_cmp, ordering_then}
use Rattle.std.specs.Map.{lookup}
use Rattle.std.specs.BTreeMap.{get, get_by, is_at, UpdatesBy}
use Rattle.std.proofs.lemmas.Bool.{eqb-true, ltb-true}
use Rattle.std.proofs.lemmas.Map.Text.{is_eq-slice_cmp}
use Rattle.sut_measures.specs.Keys.{total_key}
use Rattle.sut_measures.specs.declared.measures.Total.{Total}
use Rattle.sut_measures.proofs.KeyLemmas.{total_key-injective}
use Rattle.sut_measures.proofs.OrderLemmas.{total_order}
use Rattle.sut_classes.specs.declared.ids.ProductId.{ProductId}
use Rattle.sut_classes.specs.declared.ids.MarginId.{MarginId}
use Rattle.sut_tables.specs.contracts.sums.CellSumOrd.TheImpl as sum_ord
use Rattle.sut_tables.specs.declared.sums.CellSum.{CellSum}
use Rattle.sut_tables.specs.declared.sums.CellSum.TheVariants as sum
use mir.Syntax.{w128}
use mir.Val.{SFits}
use Rattle.std.proofs.lemmas.Int.{ints}
use Rattle.sut_tables.specs.CellSums.{IsUpTo, kept_for, same_sum}
use Rattle.sut_tables.proofs.Ordered.{same-eq}

abbrev pub compare : CellSum → CellSum → Ordering
compare = (sum_ord.ghosts).cmp

same_number : (m n : ℕ) → is_eq (nat_cmp m n) ≡ (m == n)
same_number m n = by (nat_lt m n) (m == n) refl refl
  where
    by : (b d : Bool) → nat_lt m n ≡ b → (m == n) ≡ d → is_eq (cond b Less (cond d Equal Greater)) ≡ d
    by true true e f = absurd (apart (ltb-true m n e) (eqb-true m n f))
      where
        apart : m < n → m ≡ n → ⊥
        apart l h = omega arith
    by true false e f = refl
    by false true e f = refl
    by false false e f = refl

-- the order of sums says which are the same
pub compare-same : (s q : CellSum) → is_eq (compare s q) ≡ same_sum s q
compare-same (sum.Total u) (sum.Total w) = ap is_eq (total_order u w) ∙ is_eq-slice_cmp (total_key u) (total_key w)
compare-same (sum.Uses i) (sum.Uses j) = same_number i.0 j.0
compare-same (sum.Services k) (sum.Services l) = same_number k.0 l.0
compare-same s q = refl

pub same_sum-eq : (s q : CellSum) → same_sum s q ≡ true → s ≡ q
same_sum-eq (sum.Total u) (sum.Total w) e = ap sum.Total (total_key-injective u w (same-eq (total_key u) (total_key w) e))
same_sum-eq (sum.Uses i) (sum.Uses j) e = ap (λ (n : ℕ). sum.Uses (record { 0 = n })) (eqb-true i.0 j.0 e)
same_sum-eq (sum.Services k) (sum.Services l) e = ap (λ (n : ℕ). sum.Services (record { 0 = n })) (eqb-true k.0 l.0 e)
same_sum-eq s q e = cc

-- what a map gives at a sum is the number kept for it
pub lookup-kept : (s : CellSum) (es : List (CellSum × ℤ)) → lookup (is_at (compare s)) es ≡ lookup (same_sum s) es
lookup-kept s [] = refl
lookup-kept s ((q, x) ∷ es) = rw (compare-same s q, lookup-kept s es) refl

-- a number written in place of that of a sum
pub kept-written : (m n : BTreeMap CellSum ℤ) (s : CellSum) (x y amount : ℤ) → get_by (compare s) m ≡ Some x → y ≡ x +ℤ amount → UpdatesBy compare (compare s) m n (Some y)
    → (q : CellSum) → kept_for n q ≡ (if same_sum s q then option_map (λ x. x +ℤ amount) (kept_for m q) else kept_for m q)
kept-written m n s x y amount found sums updates q =
    sym (lookup-kept q n.entries) ∙ updates.0 q ∙ by (same_sum s q) refl
  where
    here : s ≡ q → Some y ≡ option_map (λ x. x +ℤ amount) (kept_for m q)
    here e = ap Some sums ∙ ap (option_map (λ x. x +ℤ amount)) (sym found ∙ lookup-kept s m.entries ∙ ap (kept_for m) e)

    by : (b : Bool) → same_sum s q ≡ b → cond (is_eq (compare s q)) (Some y) (get compare m q) ≡ (if b then option_map (λ x. x +ℤ amount) (kept_for m q) else kept_for m q)
    by true e = rw (compare-same s q, e) (here (same_sum-eq s q e))
    by false e = rw (compare-same s q, e) (lookup-kept q m.entries)

-- where nothing is kept for a sum, nothing changes
pub kept-absent : (m : BTreeMap CellSum ℤ) (s : CellSum) (amount : ℤ) → get_by (compare s) m ≡ None
    → (q : CellSum) → kept_for m q ≡ (if same_sum s q then option_map (λ x. x +ℤ amount) (kept_for m q) else kept_for m q)
kept-absent m s amount none q = by (same_sum s q) refl
  where
    by : (b : Bool) → same_sum s q ≡ b → kept_for m q ≡ (if b then option_map (λ x. x +ℤ amount) (kept_for m q) else kept_for m q)
    by true e = let n : kept_for m q ≡ None = ap (kept_for m) (sym (same_sum-eq s q e)) ∙ sym (lookup-kept s m.entries) ∙ none in rw n refl
    by false e = refl

-- ---- numbers of 128 bits

pub sum-fits : (x y : ℤ) → IsUpTo (2 ^ 125) x → IsUpTo (2 ^ 50) y → SFits w128 (to_z w128 (of_z w128 x) +ℤ to_z w128 (of_z w128 y))
sum-fits x y b d = omega (arith, ints)

pub sum-is : (x y : ℤ) → IsUpTo (2 ^ 125) x → IsUpTo (2 ^ 50) y → to_z w128 (of_z w128 (to_z w128 (of_z w128 x) +ℤ to_z w128 (of_z w128 y))) ≡ x +ℤ y
sum-is x y b d = omega (arith, ints)
