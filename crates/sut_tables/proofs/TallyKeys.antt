-- The keys of a tally are the elements of the list that it counts, in order.
use Rattle.std.proofs.Common.{◌≡◌, ℕ, ◌+◌, ◌≤◌, List, [], ◌∷◌, Bool, true, false, cond, ◌||◌, Option, Some, None, refl, sym, ◌∙◌, ap, subst, arith}
use Rattle.std.specs.Prelude.{nat_lt, unwrap_or}
use Rattle.std.specs.List.{AllByRecursion}
use Rattle.std.specs.List.Sorted.{IsStrictlySortedBy}
use Rattle.std.specs.declared.cmp.Ordering.{Ordering}
use Rattle.std.specs.declared.cmp.Ordering.TheVariants.{Less, Equal, Greater}
use Rattle.std.specs.Ordering.{is_eq, nat_cmp, ordering_reverse}
use Rattle.std.specs.Cmp.Lexicographic.{slice_cmp, nat_list_cmp_total}
use Rattle.std.specs.FinMap.{slice_cmp-IsAntisymmetric, nat_cmp-IsAntisymmetric}
use Rattle.std.specs.BTreeMap.{is_at}
use Rattle.std.specs.Map.{keys_of, values_of, lookup}
use Rattle.std.proofs.lemmas.Bool.Decides.{nat_tests}
use Rattle.std.proofs.lemmas.List.Elements.{All-head, All-tail}
use Rattle.std.proofs.lemmas.List.Sums.{sum_by-cons}
use Rattle.sut_tables.specs.InOrder.{same_key, key_before, in_order}
use Rattle.sut_tables.specs.Tallies.{AllCounted, count_of, key_above, times_in}
use Rattle.sut_tables.specs.Tables.{first_above}
use Rattle.sut_tables.proofs.LiveMeasures.{in_order-among}
use Rattle.sut_tables.proofs.Ordered.{After, Sorted, Sorted-in_order, among, differ_back, same-refl, same-flip}
use Rattle.sut_tables.proofs.SameList.{same-list}

-- keys compare equal exactly where they are the same
pub eq-same : (k l : List ℕ) → is_eq (slice_cmp nat_cmp k l) ≡ same_key k l
eq-same k l = by (slice_cmp nat_cmp k l) refl
  where
    by : (o : Ordering) → slice_cmp nat_cmp k l ≡ o → is_eq (slice_cmp nat_cmp k l) ≡ same_key k l
    by Less e = ap is_eq e ∙ sym (differ_back k l e)
    by Equal e = ap is_eq e ∙ sym (subst (λ m. same_key k m ≡ true) (slice_cmp-IsAntisymmetric nat_cmp-IsAntisymmetric k l e) (same-refl k))
    by Greater e = ap is_eq e ∙ sym (same-flip k l ∙ differ_back l k (nat_list_cmp_total.antisymm l k ∙ ap ordering_reverse e))

module _ {K : Type 0} (cmp : K → K → Ordering) (key : K → List ℕ) (by_key : (x y : K) → cmp x y ≡ slice_cmp nat_cmp (key x) (key y)) where
  after-key : (k : K) (ks : List K) → AllByRecursion (λ y. cmp k y ≡ Less) ks → After key (key k) ks
  after-key k [] a = tt
  after-key k (y ∷ ks) a = (sym (by_key k y) ∙ a.0, after-key k ks a.1)

  pub sorted-keys : (ks : List K) → IsStrictlySortedBy cmp ks → Sorted key ks
  unfolding IsStrictlySortedBy
  sorted-keys [] s = tt
  sorted-keys (k ∷ ks) s = (after-key k ks s.0, sorted-keys ks s.1)

  -- a key is among those of a tally exactly where it is counted
  among-counted : (es : List (K × ℕ)) (q : K) → AllCounted es → among key (key q) (keys_of es) ≡ nat_lt 0 (count_of cmp es q)
  among-counted [] q all = refl
  among-counted ((k, n) ∷ es) q all =
      by (is_eq (cmp q k)) (ap is_eq (by_key q k) ∙ eq-same (key q) (key k) ∙ same-flip (key q) (key k)) (All-head (λ n. 1 ≤ n) n (values_of es) all)
      (among-counted es q (All-tail (λ n. 1 ≤ n) n (values_of es) all))
    where
      counted : 1 ≤ n → true ≡ nat_lt 0 n
      counted h = grind (arith, nat_tests)

      by : (b : Bool) → b ≡ same_key (key k) (key q) → 1 ≤ n → among key (key q) (keys_of es) ≡ nat_lt 0 (count_of cmp es q)
          → (same_key (key k) (key q) || among key (key q) (keys_of es)) ≡ nat_lt 0 (unwrap_or (cond b (Some n) (lookup (is_at (cmp q)) es)) 0)
      by true e h later = rw (sym e) (counted h)
      by false e h later = rw (sym e) later

  -- and among those of a list exactly where it stands in it
  among-times : (xs : List K) (q : K) → among key (key q) xs ≡ nat_lt 0 (times_in cmp xs q)
  among-times [] q = refl
  among-times (x ∷ xs) q =
      by (is_eq (cmp x q)) (ap is_eq (by_key x q) ∙ eq-same (key x) (key q)) (among-times xs q)
      ∙ ap (nat_lt 0) (sym (sum_by-cons (λ y. cond (is_eq (cmp y q)) 1 0) x xs))
    where
      more : (n : ℕ) → true ≡ nat_lt 0 (1 + n)
      more n = grind (arith, nat_tests)

      none : (n : ℕ) → nat_lt 0 n ≡ nat_lt 0 (0 + n)
      none n = ap (nat_lt 0) (omega arith)

      by : (b : Bool) → b ≡ same_key (key x) (key q) → among key (key q) xs ≡ nat_lt 0 (times_in cmp xs q) → (same_key (key x) (key q) || among key (key q) xs) ≡ nat_lt 0 (cond b 1 0 + times_in cmp xs q)
      by true e later = rw (sym e) (more (times_in cmp xs q))
      by false e later = rw (sym e) (later ∙ none (times_in cmp xs q))

  pub keys-counted : ((x y : K) → key x ≡ key y → x ≡ y) → (es : List (K × ℕ)) (xs : List K) → IsStrictlySortedBy cmp (keys_of es) → AllCounted es → ((q : K) → count_of cmp es q ≡ times_in cmp xs q) → keys_of es ≡ in_order key xs
  keys-counted inj es xs sorted all e =
      same-list key inj (keys_of es) (in_order key xs) (sorted-keys (keys_of es) sorted) (Sorted-in_order key xs)
      (λ q. among-counted es q all ∙ ap (nat_lt 0) (e q) ∙ sym (among-times xs q) ∙ sym (in_order-among key (key q) xs))

  -- the first key above another, by the order and by the keys
  pub key_above-is : (after : Option K) (ks : List K) → key_above cmp after ks ≡ first_above key after ks
  key_above-is None [] = refl
  key_above-is None (k ∷ ks) = refl
  key_above-is (Some a) [] = refl
  key_above-is (Some a) (k ∷ ks) = rw (by_key a k) (ap (λ o. cond (key_before (key a) (key k)) (Some k) o) (key_above-is (Some a) ks))
