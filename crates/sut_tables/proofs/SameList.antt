-- Two lists in order that have the same elements are the same: so the live measures are any list in order that has them.
use Rattle.std.proofs.Common.{◌≡◌, ℕ, List, [], ◌∷◌, refl, sym, ◌∙◌, ap, subst, Bool, true, false, ◌||◌}
use Rattle.std.specs.declared.cmp.Ordering.{Ordering}
use Rattle.std.specs.declared.cmp.Ordering.TheVariants.{Less, Equal, Greater}
use Rattle.std.specs.Ordering.{nat_cmp, ordering_reverse}
use Rattle.std.specs.Cmp.Lexicographic.{slice_cmp, nat_list_cmp_total}
use Rattle.std.specs.FinMap.{slice_cmp-IsAntisymmetric, nat_cmp-IsAntisymmetric}
use Rattle.sut_measures.specs.Keys.{measure_key}
use Rattle.sut_measures.proofs.KeyLemmas.{measure_key-injective}
use Rattle.sut_measures.specs.declared.measures.Measure.{Measure}
use Rattle.sut_tables.specs.InOrder.{same_key, IsAscending}
use Rattle.sut_tables.specs.LiveRule.{is_live}
use Rattle.sut_tables.specs.ProblemFacts.{ProblemFacts}
use Rattle.sut_tables.specs.Problems.{live_measures}
use Rattle.sut_tables.proofs.Ordered.{among, After, After-trans, Sorted, differ_back, same-eq, same-refl, same-flip}
use Rattle.sut_tables.proofs.Conservation.{Sorted-from_ascending, live-sorted}
use Rattle.sut_tables.proofs.LiveMeasures.{live-is}

module _ {X : Type 0} (key : X → List ℕ) (inj : (x y : X) → key x ≡ key y → x ≡ y) where
  not-among : (k : List ℕ) (ys : List X) → After key k ys → among key k ys ≡ false
  not-among k [] a = refl
  not-among k (y ∷ ys) a = rw (same-flip (key y) k, differ_back k (key y) a.0, not-among k ys a.1) refl

  itself : (x : X) (xs : List X) → among key (key x) (x ∷ xs) ≡ true
  itself x xs = rw (same-refl (key x)) refl

  -- where a key is before a list's first, it isn't among them
  before : (k : List ℕ) (y : X) (ys : List X) → slice_cmp nat_cmp k (key y) ≡ Less → Sorted key (y ∷ ys) → among key k (y ∷ ys) ≡ false
  before k y ys less s = not-among k (y ∷ ys) (less, After-trans key k (key y) less ys s.0)

  contrary : {b : Bool} → b ≡ true → b ≡ false → ⊥
  contrary e f = absurd (apart (sym e ∙ f))
    where
      apart : true ≡ false → ⊥
      apart e = cc

  pub same-list : (xs ys : List X) → Sorted key xs → Sorted key ys → ((z : X) → among key (key z) xs ≡ among key (key z) ys) → xs ≡ ys
  same-list [] [] s t h = refl
  same-list [] (y ∷ ys) s t h = absurd (contrary (itself y ys) (sym (h y)))
  same-list (x ∷ xs) [] s t h = absurd (contrary (itself x xs) (h x))
  same-list (x ∷ xs) (y ∷ ys) s t h = by (slice_cmp nat_cmp (key x) (key y)) refl (same-list xs ys s.1 t.1)
    where
      tails : key x ≡ key y → (z : X) → among key (key z) xs ≡ among key (key z) ys
      tails e z = each (same_key (key x) (key z)) refl
        where
          each : (b : Bool) → same_key (key x) (key z) ≡ b → among key (key z) xs ≡ among key (key z) ys
          each true g =
              let k : key x ≡ key z = same-eq (key x) (key z) g in
              subst (λ l. among key l xs ≡ among key l ys) k (not-among (key x) xs s.0 ∙ sym (not-among (key x) ys (subst (λ l. After key l ys) (sym e) t.0)))
          each false g =
              subst (λ b. (b || among key (key z) xs) ≡ among key (key z) ys) g
              (h z ∙ ap (λ b. b || among key (key z) ys) (subst (λ l. same_key l (key z) ≡ false) e g))

      by : (o : Ordering) → slice_cmp nat_cmp (key x) (key y) ≡ o → (((z : X) → among key (key z) xs ≡ among key (key z) ys) → xs ≡ ys) → x ∷ xs ≡ y ∷ ys
      by Less e rest = absurd (contrary (itself x xs) (h x ∙ before (key x) y ys e t))
      by Equal e rest =
          let k : key x ≡ key y = slice_cmp-IsAntisymmetric nat_cmp-IsAntisymmetric (key x) (key y) e in
          rw (inj x y k, rest (tails k)) refl
      by Greater e rest = absurd (contrary (itself y ys) (sym (h y) ∙ before (key y) x xs (nat_list_cmp_total.antisymm (key y) (key x) ∙ ap ordering_reverse e) s))

-- The live measures are the one ascending list that has exactly what is live.
pub live-list : (p : ProblemFacts) (ms : List Measure) → IsAscending measure_key ms → ((m : Measure) → among measure_key (measure_key m) ms ≡ is_live p m) → ms ≡ live_measures p
live-list p ms a h =
    same-list measure_key measure_key-injective ms (live_measures p) (Sorted-from_ascending measure_key ms a) (live-sorted p) (λ m. h m ∙ sym (live-is p m))
