-- Numbers on the arcs, each times the same number: what meets a node is multiplied too.
use Rattle.std.proofs.Common.{◌≡◌, ℕ, zero, suc, ◌<◌, ℤ, pos, negsuc, ◌+ℤ◌, ◌*ℤ◌, List, [], ◌∷◌, sym, ◌∙◌, ap, arith, Bool, true, false}
use Rattle.std.specs.Prelude.{if◌then◌else◌, ◌==◌}
use Rattle.std.proofs.Math.IntN.{*ℤ-zero, *ℤ-negsuc, suc_ℤ-*ℤ}
use Rattle.std.proofs.lemmas.Int.{ints}
use Rattle.sut_measures.specs.declared.measures.Measure.{Measure}
use Rattle.sut_measures.specs.declared.accounts.Account.{Account}
use Rattle.flow_cost.specs.Integers.{mul-add, mul-sub}
use Rattle.flow_graph.specs.declared.arcs.Arc.{Arc}
use Rattle.flow_graph.specs.Network.{Network}
use Rattle.flow_graph.specs.Circulation.{inflow, outflow, excess}
use Rattle.sut_network.specs.Networks.{AreBalanced, times}

-- one number, which counts at its node alone, and the rest
one-more : (by x rest : ℤ) (b : Bool) → (if b then by *ℤ x else pos 0) +ℤ by *ℤ rest ≡ by *ℤ ((if b then x else pos 0) +ℤ rest)
one-more by x rest true = sym (mul-add by x rest)
one-more by x rest false = sym (mul-add by (pos 0) rest ∙ ap (λ z. z +ℤ by *ℤ rest) (*ℤ-zero by))

pub inflow-times : (by : ℤ) (arcs : List Arc) (xs : List ℤ) (k : ℕ) → inflow arcs (times by xs) k ≡ by *ℤ inflow arcs xs k
inflow-times by [] xs k = sym (*ℤ-zero by)
inflow-times by (arc ∷ arcs) [] k = sym (*ℤ-zero by)
inflow-times by (arc ∷ arcs) (x ∷ xs) k =
    ap (λ z. (if arc.head == k then by *ℤ x else pos 0) +ℤ z) (inflow-times by arcs xs k) ∙ one-more by x (inflow arcs xs k) (arc.head == k)

pub outflow-times : (by : ℤ) (arcs : List Arc) (xs : List ℤ) (k : ℕ) → outflow arcs (times by xs) k ≡ by *ℤ outflow arcs xs k
outflow-times by [] xs k = sym (*ℤ-zero by)
outflow-times by (arc ∷ arcs) [] k = sym (*ℤ-zero by)
outflow-times by (arc ∷ arcs) (x ∷ xs) k =
    ap (λ z. (if arc.tail == k then by *ℤ x else pos 0) +ℤ z) (outflow-times by arcs xs k) ∙ one-more by x (outflow arcs xs k) (arc.tail == k)

pub excess-times : (by : ℤ) (arcs : List Arc) (xs : List ℤ) (k : ℕ) → excess arcs (times by xs) k ≡ by *ℤ excess arcs xs k
excess-times by arcs xs k =
    rw (inflow-times by arcs xs k, outflow-times by arcs xs k) (sym (mul-sub by (inflow arcs xs k) (outflow arcs xs k)))

-- numbers that balance do so when they are multiplied
pub times-balanced : (g : Network Account Measure) (by : ℤ) (xs : List ℤ) → AreBalanced g xs → AreBalanced g (times by xs)
times-balanced g by xs even = λ k l. excess-times by g.arcs xs k ∙ ap (λ z. by *ℤ z) (even k l) ∙ *ℤ-zero by

none-of : (n : ℕ) (e : ℤ) → pos (suc n) *ℤ e ≡ pos 0 → e ≡ pos 0
none-of n (pos m) h = omega (arith, ints, h, suc_ℤ-*ℤ (pos n) (pos m))
none-of n (negsuc m) h = absurd (omega (arith, ints, h, suc_ℤ-*ℤ (pos n) (negsuc m), *ℤ-negsuc (pos n) m))

-- and numbers that balance when they are multiplied by a number above 0 balance
pub parts-balanced : (g : Network Account Measure) (by : ℕ) (xs : List ℤ) → 0 < by → AreBalanced g (times (pos by) xs) → AreBalanced g xs
parts-balanced g zero xs l even = absurd (omega (arith, l))
parts-balanced g (suc n) xs l even = λ k h. none-of n (excess g.arcs xs k) (sym (excess-times (pos (suc n)) g.arcs xs k) ∙ even k h)
