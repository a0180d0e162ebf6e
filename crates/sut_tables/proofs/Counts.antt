-- Tallies through changes of one count, and the first key above another.
use Rattle.std.proofs.Common.{BTreeMap, ◌≡◌, ℕ, ◌+◌, ◌-◌, List, [], ◌∷◌, Bool, true, false, cond, Option, Some, None, refl, sym, ◌∙◌, ap, arith}
use Rattle.std.specs.Prelude.{◌&&◌, option_map, slice_get, unwrap_or}
use Rattle.std.specs.declared.cmp.Ordering.{Ordering}
use Rattle.std.specs.Ordering.{is_eq, is_lt, eq_by_cmp}
use Rattle.std.specs.declared.ops.Bound.TheVariants.{Excluded, Unbounded}
use Rattle.std.specs.BTreeMap.Range.{entries_between, range_contains}
use Rattle.std.specs.Cmp.{IsTotalOrder, eq_by_cmp_equiv}
use Rattle.std.specs.BTreeMap.{is_at, Updates}
use Rattle.std.specs.HashMap.Eq.{lookup_congr}
use Rattle.std.specs.Map.{keys_of, lookup}
use Rattle.sut_tables.specs.Tallies.{count_of, times_in, key_above}

module _ {K : Type 0} {R : K → K → Ordering} (total : IsTotalOrder R) where
  -- equal keys are counted alike
  count-same : (es : List (K × ℕ)) (k q : K) → is_eq (R k q) ≡ true → count_of R es k ≡ count_of R es q
  count-same es k q e = ap (λ o. unwrap_or o 0) (lookup_congr (eq_by_cmp R) (eq_by_cmp_equiv total).congr es k q e)

  -- a key counted once more
  pub raised : (m n : BTreeMap K ℕ) (k : K) (w : ℕ) → w ≡ count_of R m.entries k + 1 → Updates R m n k (Some w) → (q : K) → count_of R n.entries q ≡ count_of R m.entries q + times_in R (k ∷ []) q
  raised m n k w e u q = by (is_eq (R k q)) refl (ap (λ o. unwrap_or o 0) (u.0 q))
    where
      by : (b : Bool) → is_eq (R k q) ≡ b → count_of R n.entries q ≡ unwrap_or (cond (is_eq (R k q)) (Some w) (lookup (is_at (R q)) m.entries)) 0 → count_of R n.entries q ≡ count_of R m.entries q + times_in R (k ∷ []) q
      by true f h = rw f (rw f at h ∙ e ∙ ap (λ x. x + 1) (count-same m.entries k q f) ∙ omega arith)
      by false f h = rw f (rw f at h ∙ omega arith)

  -- a key counted once less: no more, where it was counted once or not at all
  pub lowered : (m n : BTreeMap K ℕ) (k : K) (w : Option ℕ) → unwrap_or w 0 ≡ count_of R m.entries k - 1 → Updates R m n k w → (q : K) → count_of R n.entries q ≡ count_of R m.entries q - times_in R (k ∷ []) q
  lowered m n k w e u q = by (is_eq (R k q)) refl (ap (λ o. unwrap_or o 0) (u.0 q))
    where
      by : (b : Bool) → is_eq (R k q) ≡ b → count_of R n.entries q ≡ unwrap_or (cond (is_eq (R k q)) w (lookup (is_at (R q)) m.entries)) 0 → count_of R n.entries q ≡ count_of R m.entries q - times_in R (k ∷ []) q
      by true f h = rw f (rw f at h ∙ e ∙ ap (λ x. x - 1) (count-same m.entries k q f) ∙ omega arith)
      by false f h = rw f (rw f at h ∙ omega arith)

-- ---- the first key above another

module _ {K : Type 0} (R : K → K → Ordering) where
  pub first-key : (es : List (K × ℕ)) (k : K) (n : ℕ) → slice_get es 0 ≡ Some (k, n) → Some k ≡ key_above R None (keys_of es)
  first-key [] k n e = absurd cc
  first-key (x ∷ es) k n e = ap (option_map (λ (x : K × ℕ). x.0)) (sym e)

  above : K → K × ℕ → Bool
  above k e = range_contains R (Excluded k) Unbounded e.0

  pub key-above : (k : K) (es rest : List (K × ℕ)) (x : K × ℕ) → entries_between R (Excluded k) Unbounded es ≡ x ∷ rest → Some x.0 ≡ key_above R (Some k) (keys_of es)
  key-above k [] rest x e = absurd cc
  key-above k (y ∷ es) rest x e = by (is_lt (R k y.0)) refl e (key-above k es rest x)
    where
      by : (b : Bool) → is_lt (R k y.0) ≡ b → cond (b && true) (y ∷ entries_between R (Excluded k) Unbounded es) (entries_between R (Excluded k) Unbounded es) ≡ x ∷ rest
          → (entries_between R (Excluded k) Unbounded es ≡ x ∷ rest → Some x.0 ≡ key_above R (Some k) (keys_of es)) → Some x.0 ≡ key_above R (Some k) (keys_of (y ∷ es))
      by true f h later = rw f cc
      by false f h later = rw f (later h)

  pub no-key-above : (k : K) (es : List (K × ℕ)) → entries_between R (Excluded k) Unbounded es ≡ [] → None ≡ key_above R (Some k) (keys_of es)
  no-key-above k [] e = refl
  no-key-above k (y ∷ es) e = by (is_lt (R k y.0)) refl e (no-key-above k es)
    where
      by : (b : Bool) → is_lt (R k y.0) ≡ b → cond (b && true) (y ∷ entries_between R (Excluded k) Unbounded es) (entries_between R (Excluded k) Unbounded es) ≡ []
          → (entries_between R (Excluded k) Unbounded es ≡ [] → None ≡ key_above R (Some k) (keys_of es)) → None ≡ key_above R (Some k) (keys_of (y ∷ es))
      by true f h later = absurd cc
      by false f h later = rw f (later h)
