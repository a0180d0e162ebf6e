-- Lists in the order of accounts: what a binary search finds in them.
use Rattle.std.proofs.Common.{◌≡◌, ℕ, zero, suc, ℤ, ◌<◌, List, [], ◌∷◌, length, get_or, Bool, true, false, if◌then◌else◌, Some, None, Result, Ok, Err, refl, sym, ◌∙◌, ap, subst, arith, add-one, inl, inr}
use Rattle.std.specs.Prelude.{All, MatchResult, is_ok}
use Rattle.std.specs.List.{HoldsAt}
use Rattle.std.specs.List.Sorted.{IsSearchInRange, IsBinarySearchResult, IsNonDecreasingBy}
use Rattle.std.specs.declared.cmp.Ordering.{Ordering}
use Rattle.std.specs.declared.cmp.Ordering.TheVariants.{Less, Equal, Greater}
use Rattle.std.specs.Ordering.{is_lt, ordering_index, ordering_reverse}
use Rattle.std.specs.Cmp.{IsTotalOrder}
use Rattle.std.specs.Cmp.Lexicographic.{nat_list_cmp_total}
use Rattle.std.specs.FinMap.{slice_cmp-IsAntisymmetric, nat_cmp-IsAntisymmetric}
use Rattle.std.proofs.lemmas.Bool.{cases_lt}
use Rattle.std.proofs.lemmas.List.Elements.{All-head, All-tail}
use Rattle.std.proofs.lemmas.List.Sorted.{searchable_from_sorted}
use Rattle.sut_measures.specs.Keys.{account_key}
use Rattle.sut_measures.specs.declared.accounts.Account.{Account}
use Rattle.sut_measures.proofs.KeyLemmas.{account_key-injective}
use Rattle.sut_measures.proofs.OrderLemmas.{account_order}
use Rattle.sut_tables.specs.InOrder.{IsAscending, same_key}
use Rattle.sut_tables.specs.LiveTallies.{account_cmp}
use Rattle.sut_tables.proofs.Ordered.{same-eq, same-refl, same-flip, differ_back}
use Rattle.sut_tables.proofs.Lists.{After-differ}
use Rattle.sut_tables.proofs.Conservation.{Sorted-from_ascending}
use Rattle.sut_cert.specs.Certificates.{has_account, pair_key, potential_at}
use Rattle.sut_cert.proofs.Ascents.{neighbours}

compare-total : IsTotalOrder account_cmp
compare-total = record {
  antisymm = λ x y. account_order x y ∙ nat_list_cmp_total.antisymm (account_key x) (account_key y) ∙ ap ordering_reverse (sym (account_order y x));
  trans = λ x y z e f. account_order x z ∙ nat_list_cmp_total.trans (account_key x) (account_key y) (account_key z) (sym (account_order x y) ∙ e) (sym (account_order y z) ∙ f);
  congr = λ x y z e. account_order x z ∙ nat_list_cmp_total.congr (account_key x) (account_key y) (account_key z) (sym (account_order x y) ∙ e) ∙ sym (account_order y z);
}

not_back : (a b : Account) → is_lt (account_cmp a b) ≡ true → is_lt (account_cmp b a) ≡ false
not_back a b e = ap is_lt (compare-total.antisymm b a) ∙ by (account_cmp a b) e
  where
    by : (o : Ordering) → is_lt o ≡ true → is_lt (ordering_reverse o) ≡ false
    by Less h = refl
    by Equal h = cc
    by Greater h = cc

same-from_equal : (a b : Account) → account_cmp a b ≡ Equal → a ≡ b
same-from_equal a b e = account_key-injective a b (slice_cmp-IsAntisymmetric nat_cmp-IsAntisymmetric (account_key a) (account_key b) (sym (account_order a b) ∙ e))

apart-from_less : (a b : Account) → account_cmp a b ≡ Less → same_key (account_key a) (account_key b) ≡ false
apart-from_less a b e = differ_back (account_key a) (account_key b) (sym (account_order a b) ∙ e)

apart-from_greater : (a b : Account) → account_cmp a b ≡ Greater → same_key (account_key a) (account_key b) ≡ false
apart-from_greater a b e = same-flip (account_key a) (account_key b) ∙ apart-from_less b a (compare-total.antisymm b a ∙ ap ordering_reverse e)

module _ {X : Type 0} (account : X → Account) where
  abbrev pub key_of : X → List ℕ
  key_of x = account_key (account x)

  searchable : (xs : List X) → IsAscending key_of xs → (a : Account) → IsNonDecreasingBy (λ x. ordering_index (account_cmp (account x) a)) xs
  searchable xs asc a =
      searchable_from_sorted compare-total account xs a
      (λ k d low high. rw add-one (not_back (account (get_or xs k d)) (account (get_or xs (suc k) d)) (ap is_lt (account_order (account (get_or xs k d)) (account (get_or xs (suc k) d))) ∙ neighbours key_of xs asc k d (omega (arith, high)))))

  -- no element is of this account
  abbrev pub NoneOf : Account → List X → Type 0
  NoneOf a xs = All (λ x. same_key (account_key (account x)) (account_key a) ≡ false) xs

  pub searched : (xs : List X) → IsAscending key_of xs → (a : Account) (r : Result ℕ ℕ) → IsSearchInRange r (length xs) → IsBinarySearchResult (λ x. account_cmp (account x) a) xs r
      → MatchResult r (λ i. (i < length xs) × HoldsAt (λ x. account x ≡ a) xs i) (λ i. NoneOf a xs)
  searched xs asc a (Ok i) l e = (l, λ d. same-from_equal (account (get_or xs i d)) a (e d))
  searched xs asc a (Err i) l e =
      let parts = e (searchable xs asc a) in
      λ k d h. elim (cases_lt k i) [
        | inl below ↦ apart-from_less (account (get_or xs k d)) a (parts.0 k d (omega arith) below)
        | inr at_least ↦ apart-from_greater (account (get_or xs k d)) a (parts.1 k d at_least h)
      ]

-- ---- pairs

pub potential-absent : (ps : List (Account × ℤ)) (a : Account) → NoneOf (λ (p : Account × ℤ). p.0) a ps → potential_at ps a ≡ None
potential-absent [] a n = refl
potential-absent (p ∷ ps) a n =
    rw (All-head (λ (q : Account × ℤ). same_key (account_key q.0) (account_key a) ≡ false) p ps n)
    (potential-absent ps a (All-tail (λ (q : Account × ℤ). same_key (account_key q.0) (account_key a) ≡ false) p ps n))

pub potential-there : (ps : List (Account × ℤ)) → IsAscending pair_key ps → (a : Account) (i : ℕ) (p : Account × ℤ) → i < length ps → get_or ps i p ≡ p → p.0 ≡ a → potential_at ps a ≡ Some p.1
potential-there [] asc a i p l at is = absurd (omega arith)
potential-there (q ∷ ps) asc a zero p l at is =
    let here : q.0 ≡ a = ap (λ (w : Account × ℤ). w.0) at ∙ is in
    rw (here, same-refl (account_key a)) (ap (λ (w : Account × ℤ). Some w.1) at)
potential-there (q ∷ ps) asc a (suc i) p l at is =
    let sorted = Sorted-from_ascending pair_key (q ∷ ps) asc in
    let other : same_key (account_key q.0) (account_key p.0) ≡ false =
    subst (λ (w : Account × ℤ). same_key (account_key q.0) (account_key w.0) ≡ false) at (After-differ pair_key (account_key q.0) ps sorted.0 i p (omega arith)) in
    rw (subst (λ b. same_key (account_key q.0) (account_key b) ≡ false) is other) (potential-there ps (tail q ps asc) a i p (omega arith) at is)
  where
    tail : (q : Account × ℤ) (ps : List (Account × ℤ)) → IsAscending pair_key (q ∷ ps) → IsAscending pair_key ps
    tail q [] asc = tt
    tail q (p ∷ ps) asc = asc.1

-- ---- sets

account-there : (set : List Account) (i : ℕ) (a : Account) → i < length set → get_or set i a ≡ a → has_account set a ≡ true
account-there [] i a l at = absurd (omega arith)
account-there (b ∷ set) zero a l at = let here : b ≡ a = at in rw (here, same-refl (account_key a)) refl
account-there (b ∷ set) (suc i) a l at = rw (account-there set i a (omega arith) at) (either (same_key (account_key b) (account_key a)))
  where
    either : (t : Bool) → (if t then true else true) ≡ true
    either true = refl
    either false = refl

account-absent : (set : List Account) (a : Account) → NoneOf (λ (b : Account). b) a set → has_account set a ≡ false
account-absent [] a n = refl
account-absent (b ∷ set) a n =
    rw (All-head (λ (c : Account). same_key (account_key c) (account_key a) ≡ false) b set n)
    (account-absent set a (All-tail (λ (c : Account). same_key (account_key c) (account_key a) ≡ false) b set n))

-- whether a search finds an account is whether the set has it
pub account-searched : (set : List Account) → IsAscending account_key set → (a : Account) (r : Result ℕ ℕ) → IsSearchInRange r (length set) → IsBinarySearchResult (λ x. account_cmp x a) set r → is_ok r ≡ has_account set a
account-searched set asc a r l e = by r (searched (λ (b : Account). b) set asc a r l e)
  where
    by : (r : Result ℕ ℕ) → MatchResult r (λ i. (i < length set) × HoldsAt (λ x. x ≡ a) set i) (λ i. NoneOf (λ (b : Account). b) a set) → is_ok r ≡ has_account set a
    by (Ok i) f = sym (account-there set i a f.0 (f.1 a))
    by (Err i) f = sym (account-absent set a f)

-- what all accounts of a list have, one that it has has
pub account-among : (P : Account → Type 0) (set : List Account) (a : Account) → All P set → has_account set a ≡ true → P a
account-among P [] a all h = cc
account-among P (b ∷ set) a all h = by (account-among P set a (All-tail P b set all)) (same_key (account_key b) (account_key a)) refl h
  where
    by : (has_account set a ≡ true → P a) → (t : Bool) → same_key (account_key b) (account_key a) ≡ t → (if t then true else has_account set a) ≡ true → P a
    by rest true e h = subst P (account_key-injective b a (same-eq (account_key b) (account_key a) e)) (All-head P b set all)
    by rest false e h = rest h
