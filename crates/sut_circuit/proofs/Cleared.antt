-- Potentials of 0, node by node.
use Rattle.std.proofs.Common.{◌≡◌, ℕ, zero, suc, ◌+◌, ◌<◌, ◌≤◌, [], ◌∷◌, ◌++◌, length, take, pos, replicate, refl, sym, ◌∙◌, ap, add-one}
use Rattle.std.specs.Prelude.{slice_set}
use Rattle.std.proofs.lemmas.List.{length-set, take_all, take_more_set}
use Rattle.sut_measures.specs.declared.accounts.Account.{Account}
use Rattle.sut_measures.specs.declared.measures.Measure.{Measure}
use Rattle.flow_residual.specs.Flows.{Flow}
use Rattle.sut_circuit.specs.RowCosts.{ArcCost}

replicate-push : (n : ℕ) → replicate n (pos 0) ++ pos 0 ∷ [] ≡ replicate (suc n) (pos 0)
replicate-push zero = refl
replicate-push (suc n) = ap (λ zs. pos 0 ∷ zs) (replicate-push n)

-- the first so many potentials are 0, and all else is as at first
pub record IsCleared (start now : Flow Account Measure ArcCost) (n : ℕ) : Type 0 where
  pub rest : now ≡ record start { potentials = now.potentials }
  pub counted : length now.potentials ≡ length start.potentials
  pub cleared : take n now.potentials ≡ replicate n (pos 0)

pub cleared-more : (start now next : Flow Account Measure ArcCost) (n : ℕ) → n < length now.potentials → next ≡ record now { potentials = slice_set now.potentials n (pos 0) }
    → IsCleared start now n → IsCleared start next (n + 1)
cleared-more start now next n l e h =
    let ps : next.potentials ≡ slice_set now.potentials n (pos 0) = ap (λ (s : Flow Account Measure ArcCost). s.potentials) e in
    record {
      rest = e ∙ ap (λ (s : Flow Account Measure ArcCost). record s { potentials = slice_set now.potentials n (pos 0) }) h.rest ∙ ap (λ zs. record start { potentials = zs }) (sym ps);
      counted = ap length ps ∙ length-set now.potentials n (pos 0) ∙ h.counted;
      cleared = ap (take (n + 1)) ps ∙ take_more_set now.potentials n (pos 0) l ∙ ap (λ zs. zs ++ pos 0 ∷ []) h.cleared ∙ replicate-push n ∙ ap (λ k. replicate k (pos 0)) (sym (add-one n));
    }

pub cleared-all : (start now : Flow Account Measure ArcCost) (n : ℕ) → length now.potentials ≤ n → IsCleared start now n → now ≡ record start { potentials = replicate n (pos 0) }
cleared-all start now n l h = h.rest ∙ ap (λ zs. record start { potentials = zs }) (sym (take_all n now.potentials l) ∙ h.cleared)
