-- Lists in the order of keys, by their neighbours and at their end.
use Rattle.std.proofs.Common.{◌≡◌, ℕ, zero, suc, ◌+◌, ◌-◌, ◌<◌, List, [], ◌∷◌, ◌++◌, length, get_or, Bool, true, false, refl, sym, ap, ◌∙◌, arith, add-one}
use Rattle.std.specs.Prelude.{IsTrue, ◌↔◌, slice_get, ℤ, map}
use Rattle.std.specs.List.{AllAdjacentBelow, IsAllAdjacentAnswer}
use Rattle.std.proofs.lemmas.Bool.{false≢true}
use Rattle.sut_measures.specs.declared.accounts.Account.{Account}
use Rattle.sut_tables.specs.InOrder.{IsAscending, key_before}
use Rattle.sut_cert.specs.Certificates.{IsAccountSet, pair_key}
use Rattle.sut_cert.specs.CertificateFile.{is_above, last_of}

module _ {X : Type 0} (key : X → List ℕ) where
  pub neighbours : (xs : List X) → IsAscending key xs → (k : ℕ) (d : X) → suc k < length xs → key_before (key (get_or xs k d)) (key (get_or xs (suc k) d)) ≡ true
  neighbours [] a k d l = absurd (omega arith)
  neighbours (x ∷ []) a k d l = absurd (omega arith)
  neighbours (x ∷ y ∷ ys) a zero d l = a.0
  neighbours (x ∷ y ∷ ys) a (suc k) d l = neighbours (y ∷ ys) a.1 k d (omega arith)

  from-neighbours : (xs : List X) → AllAdjacentBelow (λ x y. true ≡ key_before (key x) (key y)) xs (length xs) → IsAscending key xs
  from-neighbours [] h = tt
  from-neighbours (x ∷ []) h = tt
  from-neighbours (x ∷ y ∷ ys) h = (sym (h 0 x (omega arith)), from-neighbours (y ∷ ys) (λ k d l. rw add-one (rw add-one at (h (suc k) d (omega (arith, l))))))

  broken : (xs : List X) → IsAscending key xs → (k : ℕ) → k + 1 < length xs → ((d : X) → false ≡ key_before (key (get_or xs k d)) (key (get_or xs (k + 1) d))) → ⊥
  broken [] a k l h = absurd (omega arith)
  broken (x ∷ xs) a k l h =
      let there = neighbours (x ∷ xs) a k x (omega (arith, l)) in
      false≢true (rw add-one at (h x) ∙ there)

  -- what a test of each element and the next says
  pub ascending-tested : (xs : List X) (r : Bool) → IsAllAdjacentAnswer (λ x y b. b ≡ key_before (key x) (key y)) xs r → IsTrue r ↔ IsAscending key xs
  ascending-tested xs true h = ((λ e. from-neighbours xs h), (λ a. refl))
  ascending-tested xs false h = ((λ e. absurd (false≢true e)), (λ a. absurd (broken xs a h.0 h.1 h.2)))

-- ---- accounts, by the last one

last-cons : (a b : Account) (set : List Account) → last_of (a ∷ b ∷ set) ≡ last_of (b ∷ set)
last-cons a b set =
    let next : length (a ∷ b ∷ set) - 1 ≡ suc (length (b ∷ set) - 1) = omega arith in
    ap (slice_get (a ∷ b ∷ set)) next

-- one more account, above the last one
pub above-push : (set : List Account) (x : Account) → IsAccountSet set → is_above (last_of set) x ≡ true → IsAccountSet (set ++ x ∷ [])
above-push [] x asc above = tt
above-push (a ∷ []) x asc above = (above, tt)
above-push (a ∷ b ∷ set) x asc above = (asc.0, above-push (b ∷ set) x asc.1 (ap (λ o. is_above o x) (sym (last-cons a b set)) ∙ above))

-- an account of a set is above the last one before it
pub above-seam : (set : List Account) (x : Account) (more : List Account) → IsAccountSet (set ++ x ∷ more) → is_above (last_of set) x ≡ true
above-seam [] x more asc = refl
above-seam (a ∷ []) x more asc = asc.0
above-seam (a ∷ b ∷ set) x more asc = ap (λ o. is_above o x) (last-cons a b set) ∙ above-seam (b ∷ set) x more asc.1

-- pairs are in the order of their accounts
pub pairs-ascending : (ps : List (Account × ℤ)) → IsAccountSet (map (λ (a : Account × ℤ). a.0) ps) → IsAscending pair_key ps
pairs-ascending [] asc = tt
pairs-ascending (p ∷ []) asc = tt
pairs-ascending (p ∷ q ∷ ps) asc = (asc.0, pairs-ascending (q ∷ ps) asc.1)
