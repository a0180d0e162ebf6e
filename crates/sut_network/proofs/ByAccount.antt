-- Potentials by account, one account more.
use Rattle.std.proofs.Common.{◌≡◌, ℕ, zero, suc, ◌+◌, ℤ, List, [], ◌∷◌, ◌++◌, take, Some, refl, ◌∙◌, ap, sym, add-one}
use Rattle.std.specs.Prelude.{slice_get}
use Rattle.sut_measures.specs.declared.accounts.Account.{Account}
use Rattle.sut_circuit.specs.Circuit.{by_account}
use Rattle.sut_circuit.proofs.Places.{some-same}

potentials-suc : (nodes : List Account) (ys : List ℤ) (k : ℕ) (a : Account) (y : ℤ) → slice_get nodes k ≡ Some a → slice_get ys k ≡ Some y
    → by_account (take (suc k) nodes) (take (suc k) ys) ≡ by_account (take k nodes) (take k ys) ++ (a, y) ∷ []
potentials-suc [] ys k a y e f = absurd cc
potentials-suc (n ∷ nodes) [] k a y e f = absurd cc
potentials-suc (n ∷ nodes) (z ∷ ys) zero a y e f = rw (some-same n a e, some-same z y f) refl
potentials-suc (n ∷ nodes) (z ∷ ys) (suc k) a y e f = ap (λ ps. (n, z) ∷ ps) (potentials-suc nodes ys k a y e f)

pub potentials-more : (nodes : List Account) (ys : List ℤ) (k : ℕ) (a : Account) (y : ℤ) (ps qs : List (Account × ℤ)) → slice_get nodes k ≡ Some a → slice_get ys k ≡ Some y
    → ps ≡ by_account (take k nodes) (take k ys) → qs ≡ ps ++ (a, y) ∷ [] → qs ≡ by_account (take (k + 1) nodes) (take (k + 1) ys)
potentials-more nodes ys k a y ps qs e f is next =
    next ∙ ap (λ rs. rs ++ (a, y) ∷ []) is ∙ sym (potentials-suc nodes ys k a y e f) ∙ ap (λ n. by_account (take n nodes) (take n ys)) (sym (add-one k))
