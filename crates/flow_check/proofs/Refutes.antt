-- A set whose bounds contradict each other leaves no circulation.
use Rattle.std.proofs.Common.{◌≡◌, ℕ, Bool, true, false, not, ◌&&◌, if◌then◌else◌, List, [], ◌∷◌, All, ℤ, pos, negsuc, ◌+ℤ◌, ◌-ℤ◌, ◌*ℤ◌, neg_ℤ, ◌≤ℤ◌, arith, ap, ◌∙◌}
use Rattle.std.specs.List.{AllZip}
use Rattle.std.proofs.Math.IntN.{*ℤ_comm, zero-*ℤ}
use Rattle.std.proofs.lemmas.Int.{ints}
use Rattle.std.proofs.lemmas.List.Elements.{recursion_from_All}
use Rattle.flow_cost.specs.Integers.{mul-one, mul-neg}
use Rattle.flow_graph.specs.declared.arcs.Arc.{Arc}
use Rattle.flow_graph.specs.Circulation.{IsFlow, IsCirculation}
use Rattle.flow_graph.specs.Contradiction.{in_set, entering_low, leaving_high, Contradicts}
use Rattle.flow_graph.specs.Network.{IsArcAmong}
use Rattle.flow_check.proofs.Sums.{carried, carried-circulation}

-- 1 for a member, 0 for another
abbrev pub weight_of : Bool → ℤ
weight_of b = if b then pos 1 else pos 0

times_one : (x : ℤ) → pos 1 *ℤ x ≡ x
times_one x = *ℤ_comm (pos 1) x ∙ mul-one x

times_minus_one : (x : ℤ) → negsuc 0 *ℤ x ≡ neg_ℤ x
times_minus_one x = *ℤ_comm (negsuc 0) x ∙ mul-neg x (pos 1) ∙ ap neg_ℤ (mul-one x)

-- one arc: what it must bring in, less what it can take out, is at most what it carries
pub one_arc : (head tail : Bool) (lo hi x : ℤ) → lo ≤ℤ x → x ≤ℤ hi →
    ((if head && not tail then lo else pos 0) -ℤ (if tail && not head then hi else pos 0)) ≤ℤ ((weight_of head -ℤ weight_of tail) *ℤ x)
one_arc true true lo hi x l h = rw (zero-*ℤ x) (omega (arith, ints))
one_arc true false lo hi x l h = rw (times_one x) (omega (arith, ints))
one_arc false true lo hi x l h = rw (times_minus_one x) (omega (arith, ints))
one_arc false false lo hi x l h = rw (zero-*ℤ x) (omega (arith, ints))

add_up : (a b c d e f : ℤ) → (a -ℤ b) ≤ℤ c → (d -ℤ e) ≤ℤ f → ((a +ℤ d) -ℤ (b +ℤ e)) ≤ℤ (c +ℤ f)
add_up a b c d e f h k = omega (arith, ints)

all_arcs : (set : List Bool) (arcs : List Arc) (xs : List ℤ) → AllZip IsFlow arcs xs →
    (entering_low set arcs -ℤ leaving_high set arcs) ≤ℤ carried (λ k. weight_of (in_set set k)) arcs xs
all_arcs set [] [] f = omega (arith, ints)
all_arcs set [] (x ∷ xs) f = elim f [ ]
all_arcs set (arc ∷ arcs) [] f = elim f [ ]
all_arcs set (arc ∷ arcs) (x ∷ xs) f =
    add_up _ _ _ (entering_low set arcs) (leaving_high set arcs) _
    (one_arc (in_set set arc.head) (in_set set arc.tail) arc.lo arc.hi x f.0.low f.0.high)
    (all_arcs set arcs xs f.1)

pub no_circulation : (nodes : ℕ) (arcs : List Arc) (set : List Bool) → All (IsArcAmong nodes) arcs → Contradicts arcs set →
    (xs : List ℤ) → IsCirculation nodes arcs xs → ⊥
no_circulation nodes arcs set ends c xs k =
    let zero_carried = carried-circulation (λ n. weight_of (in_set set n)) nodes arcs xs (recursion_from_All (IsArcAmong nodes) arcs ends) k.balanced in
    let most = all_arcs set arcs xs k.bounded in
    omega (arith, ints, zero_carried, most, c.gap)
