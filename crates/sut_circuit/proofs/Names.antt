-- When two accounts or two measures are the same, and where a name stands in a list in order.
use Rattle.std.proofs.Common.{◌≡◌, ℕ, zero, suc, ◌+◌, ◌<◌, arith, cond, not, List, [], ◌∷◌, length, take, get_or, Option, Some, None, Bool, true, false, ◌||◌, refl, sym, ◌∙◌, ap}
use Rattle.std.specs.Prelude.{slice_get, option_map, IsSome}
use Rattle.std.proofs.lemmas.Bool.{lt-ltb}
use Rattle.std.specs.List.{list_any, position, position_or_len}
use Rattle.std.specs.Ordering.{is_eq}
use Rattle.std.proofs.lemmas.List.Quantifiers.{position-Some}
use Rattle.std.proofs.lemmas.Map.Text.{is_eq-slice_cmp}
use Rattle.std.proofs.lemmas.Option.{slice_get-get_or}
use Rattle.sut_measures.specs.Keys.{account_key, measure_key}
use Rattle.sut_measures.specs.contracts.accounts.AccountPartialEq.TheImpl as account_eq
use Rattle.sut_measures.specs.contracts.accounts.AccountOrd.TheImpl.Laws as account_laws
use Rattle.sut_measures.specs.contracts.measures.MeasurePartialEq.TheImpl as measure_eq
use Rattle.sut_measures.specs.contracts.measures.MeasureOrd.TheImpl.Laws as measure_laws
use Rattle.sut_measures.specs.declared.accounts.Account.{Account}
use Rattle.sut_measures.specs.declared.measures.Measure.{Measure}
use Rattle.sut_measures.proofs.OrderLemmas.{account_order, measure_order}
use Rattle.sut_tables.specs.InOrder.{same_key}
use Rattle.sut_tables.proofs.Ordered.{among, Sorted, same-eq, same-flip}
use Rattle.sut_tables.proofs.Lists.{After-differ}
use Rattle.sut_circuit.proofs.Places.{All-at}

abbrev pub same_account : Account → Account → Bool
same_account = (account_eq.ghosts).eq

abbrev pub same_measure : Measure → Measure → Bool
same_measure = (measure_eq.ghosts).eq

-- they are the same where their keys are
pub account-same : (a b : Account) → same_account a b ≡ same_key (account_key a) (account_key b)
account-same a b = account_laws.matches_eq-law a b ∙ ap is_eq (account_order a b) ∙ is_eq-slice_cmp (account_key a) (account_key b)

pub measure-same : (m n : Measure) → same_measure m n ≡ same_key (measure_key m) (measure_key n)
measure-same m n = measure_laws.matches_eq-law m n ∙ ap is_eq (measure_order m n) ∙ is_eq-slice_cmp (measure_key m) (measure_key n)

module _ {X : Type 0} (key : X → List ℕ) (eq : X → X → Bool) (same : (x y : X) → eq x y ≡ same_key (key x) (key y)) where
  -- an element of a list in order isn't among those before it
  pub none-before : (xs : List X) → Sorted key xs → (k : ℕ) (x : X) → slice_get xs k ≡ Some x → list_any (eq x) (take k xs) ≡ false
  none-before [] s k x e = absurd cc
  none-before (y ∷ ys) s zero x e = refl
  none-before (y ∷ ys) s (suc k) x e =
      rw (same x y ∙ same-flip (key x) (key y) ∙ All-at (λ z. same_key (key y) (key z) ≡ false) ys k x (After-differ key (key y) ys s.0) e) (none-before ys s.1 k x e)

  -- one that is among them is found
  pub any-among : (x : X) (ys : List X) → among key (key x) ys ≡ true → list_any (eq x) ys ≡ true
  any-among x [] h = cc
  any-among x (y ∷ ys) h = rw (same x y ∙ same-flip (key x) (key y)) (by (same_key (key y) (key x)) h (any-among x ys))
    where
      by : (b : Bool) → (b || among key (key x) ys) ≡ true → (among key (key x) ys ≡ true → list_any (eq x) ys ≡ true) → (b || list_any (eq x) ys) ≡ true
      by true h rest = refl
      by false h rest = rest h

  -- the name at its place
  pub found-at : ((x y : X) → key x ≡ key y → x ≡ y) → (x : X) (ys : List X) (k : ℕ) → position (eq x) ys ≡ Some k → slice_get ys k ≡ Some x
  found-at inj x ys k e =
      let at = position-Some (eq x) ys k x e in
      slice_get-get_or ys k x at.0
      ∙ ap Some (sym (inj x (get_or ys k x) (same-eq (key x) (key (get_or ys k x)) (sym (same x (get_or ys k x)) ∙ at.1))))

-- ---- a name that is there has a place

found-below : {X : Type 0} (q : X → Bool) (xs : List X) → list_any q xs ≡ true → position_or_len q xs < length xs
found-below q [] h = cc
found-below q (x ∷ xs) h = by (q x) h (found-below q xs)
  where
    by : (b : Bool) → (b || list_any q xs) ≡ true → (list_any q xs ≡ true → position_or_len q xs < length xs) → cond (not b) (1 + position_or_len q xs) 0 < suc (length xs)
    by true h rest = omega arith
    by false h rest = omega (arith, rest h)

pub place-there : {X : Type 0} (q : X → Bool) (xs : List X) → list_any q xs ≡ true → position q xs ≡ Some (position_or_len q xs)
place-there q xs h = rw (lt-ltb (position_or_len q xs) (length xs) (found-below q xs h)) refl

pub some-there : {X Y : Type 0} (f : X → Y) (o : Option X) (y : Y) → option_map f o ≡ Some y → IsSome o
some-there f None y e = absurd cc
some-there f (Some x) y e = refl
