-- Potentials and sets by account, one account more.
use Rattle.std.proofs.Common.{◌≡◌, ℕ, zero, suc, ◌+◌, ℤ, List, [], ◌∷◌, ◌++◌, take, Some, Bool, true, false, refl, ◌∙◌, ap, sym, add-one}
use Rattle.std.specs.Prelude.{slice_get, if◌then◌else◌}
use Rattle.sut_measures.specs.declared.accounts.Account.{Account}
use Rattle.sut_circuit.specs.Circuit.{by_account, marked}
use Rattle.sut_circuit.proofs.Places.{some-same}

potentials-suc : (nodes : List Account) (ys : List ℤ) (k : ℕ) (a : Account) (y : ℤ) → slice_get nodes k ≡ Some a → slice_get ys k ≡ Some y
    → by_account (take (suc k) nodes) (take (suc k) ys) ≡ by_account (take k nodes) (take k ys) ++ (a, y) ∷ []
potentials-suc [] ys k a y e f = absurd cc
potentials-suc (n ∷ nodes) [] k a y e f = absurd cc
potentials-suc (n ∷ nodes) (z ∷ ys) zero a y e f = rw (some-same n a e, some-same z y f) refl
potentials-suc (n ∷ nodes) (z ∷ ys) (suc k) a y e f = ap (λ ps. (n, z) ∷ ps) (potentials-suc nodes ys k a y e f)

pub potentials-more : (nodes : List Account) (ys : List ℤ) (k : ℕ) (a : Account) (y : ℤ) (ps qs : List (Account × ℤ)) → slice_get nodes k ≡ Some a → slice_get ys k ≡ Some y
    → ps ≡ by_account (take k nodes) (take k ys) → qs ≡ ps ++ (a, y) ∷ [] → qs ≡ by_account (take (k + 1) nodes) (take (k + 1) ys)
potentials-more nodes ys k a y ps qs e f is next =
    next ∙ ap (λ rs. rs ++ (a, y) ∷ []) is ∙ sym (potentials-suc nodes ys k a y e f) ∙ ap (λ n. by_account (take n nodes) (take n ys)) (sym (add-one k))

marked-suc : (nodes : List Account) (marks : List Bool) (k : ℕ) (a : Account) (b : Bool) → slice_get nodes k ≡ Some a → slice_get marks k ≡ Some b
    → marked (take (suc k) nodes) (take (suc k) marks) ≡ (if b then marked (take k nodes) (take k marks) ++ a ∷ [] else marked (take k nodes) (take k marks))
marked-suc [] marks k a b e f = absurd cc
marked-suc (n ∷ nodes) [] k a b e f = absurd cc
marked-suc (n ∷ nodes) (d ∷ marks) zero a b e f = rw (some-same n a e, some-same d b f) refl
marked-suc (n ∷ nodes) (d ∷ marks) (suc k) a b e f = by d b (marked-suc nodes marks k a b e f)
  where
    by : (d b : Bool)
        → marked (take (suc k) nodes) (take (suc k) marks) ≡ (if b then marked (take k nodes) (take k marks) ++ a ∷ [] else marked (take k nodes) (take k marks))
        → (if d then n ∷ marked (take (suc k) nodes) (take (suc k) marks) else marked (take (suc k) nodes) (take (suc k) marks))
        ≡ (if b then (if d then n ∷ marked (take k nodes) (take k marks) else marked (take k nodes) (take k marks)) ++ a ∷ [] else (if d then n ∷ marked (take k nodes) (take k marks) else marked (take k nodes) (take k marks)))
    by true true h = ap (λ ms. n ∷ ms) h
    by true false h = ap (λ ms. n ∷ ms) h
    by false true h = h
    by false false h = h

pub marked-more : (nodes : List Account) (marks : List Bool) (k : ℕ) (a : Account) (b : Bool) (ms ns : List Account) → slice_get nodes k ≡ Some a → slice_get marks k ≡ Some b
    → ms ≡ marked (take k nodes) (take k marks) → ns ≡ (if b then ms ++ a ∷ [] else ms) → ns ≡ marked (take (k + 1) nodes) (take (k + 1) marks)
marked-more nodes marks k a b ms ns e f is next =
    next ∙ ap (λ rs. if b then rs ++ a ∷ [] else rs) is ∙ sym (marked-suc nodes marks k a b e f) ∙ ap (λ n. marked (take n nodes) (take n marks)) (sym (add-one k))
