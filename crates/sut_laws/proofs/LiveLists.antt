-- What is among the live measures and accounts, as elements of the lists.
use Rattle.std.proofs.Common.{◌≡◌, ◌⊎◌, ℕ, Bool, true, false, ◌||◌, List, [], ◌∷◌, refl, sym, ap, subst, ◌∙◌, inl, inr}
use Rattle.std.specs.Prelude.{All, Contains}
use Rattle.std.specs.List.{list_any}
use Rattle.std.proofs.lemmas.List.Elements.{All-cons, All-contains, All-contains_itself, All-nil, All-weaker, Contains-append_left, Contains-append_right, Contains-push}
use Rattle.sut_measures.specs.Ends.{entered, left}
use Rattle.sut_measures.specs.Keys.{account_key, measure_key}
use Rattle.sut_measures.specs.declared.accounts.Account.{Account}
use Rattle.sut_measures.specs.declared.measures.Measure.{Measure}
use Rattle.sut_measures.proofs.KeyLemmas.{account_key-injective, measure_key-injective}
use Rattle.sut_tables.specs.InOrder.{same_key}
use Rattle.sut_tables.specs.ProblemFacts.{ProblemFacts}
use Rattle.sut_tables.specs.Problems.{groups, live_accounts, live_measures}
use Rattle.sut_tables.proofs.Ascending.{accounts-ascending, live-ascending}
use Rattle.sut_tables.proofs.Lists.{All-among, All-are_among}
use Rattle.sut_tables.proofs.LiveMeasures.{live-account-is, live-is}
use Rattle.sut_tables.proofs.Ordered.{among, or_true, same-eq, same-refl}
use Rattle.sut_laws.specs.Live.{IsEnd, LiveAccountsAreListed, LiveMeasuresAreListed}

-- ---- an element of a list, and one with its key

module _ {X : Type 0} (key : X → List ℕ) (inj : (x y : X) → key x ≡ key y → x ≡ y) where
  among-there : (xs : List X) (x : X) → Contains xs x → among key (key x) xs ≡ true
  among-there xs x there = All-contains (λ y. among key (key y) xs ≡ true) xs x (All-are_among key xs xs (λ k h. h)) there

  there-among : (xs : List X) (x : X) → among key (key x) xs ≡ true → Contains xs x
  there-among xs x h = All-among (Contains xs) key inj x xs (All-contains_itself xs) h

-- ---- an element that passes a test

module _ {X : Type 0} (test : X → Bool) where
  all-any : (xs : List X) → All (λ x. test x ≡ true → list_any test xs ≡ true) xs
  all-any [] = All-nil (λ x. test x ≡ true → list_any test [] ≡ true)
  all-any (y ∷ ys) =
      All-cons (λ x. test x ≡ true → list_any test (y ∷ ys) ≡ true) y ys (λ h. ap (λ b. b || list_any test ys) h)
      (All-weaker (λ x. test x ≡ true → list_any test ys ≡ true) (λ x. test x ≡ true → list_any test (y ∷ ys) ≡ true) (λ x f h. ap (λ b. test y || b) (f h) ∙ or_true (test y)) ys (all-any ys))

  any-there : (xs : List X) (x : X) → Contains xs x → test x ≡ true → list_any test xs ≡ true
  any-there xs x there h = All-contains (λ x. test x ≡ true → list_any test xs ≡ true) xs x (all-any xs) there h

  there-any : (xs : List X) → list_any test xs ≡ true → (x : X) × Contains xs x × (test x ≡ true)
  there-any [] h = cc
  there-any (y ∷ ys) h = by (test y) refl h (there-any ys)
    where
      by : (b : Bool) → test y ≡ b → (b || list_any test ys) ≡ true → (list_any test ys ≡ true → (x : X) × Contains ys x × (test x ≡ true)) → (x : X) × Contains (y ∷ ys) x × (test x ≡ true)
      by true e h rest = (y, Contains-append_left (y ∷ []) ys y (Contains-push [] y), e)
      by false e h rest = let found = rest h in (found.0, Contains-append_right (y ∷ []) ys found.0 found.1, found.2)

-- ---- what is live

pub measures-listed : LiveMeasuresAreListed
measures-listed p = (
  live-ascending p,
  λ m. (
    λ there. sym (live-is p m) ∙ among-there measure_key measure_key-injective (live_measures p) m there,
    λ h. there-among measure_key measure_key-injective (live_measures p) m (live-is p m ∙ h),
  ),
)

-- a measure has the account at one of its ends
abbrev is_end : ProblemFacts → Account → Measure → Bool
is_end p a m = same_key (account_key (left (groups p) m)) (account_key a) || (same_key (account_key (entered (groups p) m)) (account_key a) || false)

ends : (l e a : Account) → (same_key (account_key l) (account_key a) || (same_key (account_key e) (account_key a) || false)) ≡ true → (l ≡ a) ⊎ (e ≡ a)
ends l e a h = by (same_key (account_key l) (account_key a)) (same_key (account_key e) (account_key a)) refl refl h
  where
    by : (b d : Bool) → same_key (account_key l) (account_key a) ≡ b → same_key (account_key e) (account_key a) ≡ d → (b || (d || false)) ≡ true → (l ≡ a) ⊎ (e ≡ a)
    by true d f g h = inl (account_key-injective l a (same-eq (account_key l) (account_key a) f))
    by false true f g h = inr (account_key-injective e a (same-eq (account_key e) (account_key a) g))
    by false false f g h = cc

end : (l e a : Account) → (l ≡ a) ⊎ (e ≡ a) → (same_key (account_key l) (account_key a) || (same_key (account_key e) (account_key a) || false)) ≡ true
end l e a (inl f) = ap (λ b. b || (same_key (account_key e) (account_key a) || false)) (itself l f)
  where
    itself : (x : Account) → x ≡ a → same_key (account_key x) (account_key a) ≡ true
    itself x f = subst (λ k. same_key (account_key x) k ≡ true) (ap account_key f) (same-refl (account_key x))
end l e a (inr f) =
    ap (λ b. same_key (account_key l) (account_key a) || (b || false)) (itself e f) ∙ or_true (same_key (account_key l) (account_key a))
  where
    itself : (x : Account) → x ≡ a → same_key (account_key x) (account_key a) ≡ true
    itself x f = subst (λ k. same_key (account_key x) k ≡ true) (ap account_key f) (same-refl (account_key x))

pub accounts-listed : LiveAccountsAreListed
accounts-listed p = (accounts-ascending p, λ a. (of_end a, from_end a))
  where
    of_end : (a : Account) → Contains (live_accounts p) a → IsEnd p a
    of_end a there =
        let found = there-any (is_end p a) (live_measures p) (sym (live-account-is p a) ∙ among-there account_key account_key-injective (live_accounts p) a there) in
        (found.0, found.1, ends (left (groups p) found.0) (entered (groups p) found.0) a found.2)

    from_end : (a : Account) → IsEnd p a → Contains (live_accounts p) a
    from_end a found =
        there-among account_key account_key-injective (live_accounts p) a
        (live-account-is p a ∙ any-there (is_end p a) (live_measures p) found.0 found.1 (end (left (groups p) found.0) (entered (groups p) found.0) a found.2))
