-- The two sums of a cut, one arc further.
use Rattle.std.proofs.Common.{◌≡◌, ℕ, ◌+◌, ◌*◌, ◌^◌, ◌≤◌, Bool, true, false, not, ◌&&◌, if◌then◌else◌, List, [], length, drop, ◌<ℤ◌, ℤ, pos, ◌+ℤ◌, ◌≤ℤ◌, neg_ℤ, unsigned_abs, ap, subst, arith, add-one}
use Rattle.std.proofs.lemmas.Int.{ints}
use Rattle.std.proofs.lemmas.List.{drop_all}
use Rattle.flow_graph.specs.declared.arcs.Arc.{Arc}
use Rattle.flow_graph.specs.Contradiction.{in_set, entering_low, leaving_high, Contradicts}
use Rattle.flow_graph.proofs.Lookups.{drop_read}
use Rattle.flow_graph.proofs.ReadArcs.{HasEnds}
use Rattle.flow_cost.specs.Integers.{abs_at_most}
use Rattle.flow_check.proofs.Touching.{abs_add}

added : (sum part rest left total : ℤ) → left ≡ part +ℤ rest → sum +ℤ left ≡ total → (sum +ℤ part) +ℤ rest ≡ total
added sum part rest left total e h = omega (arith, ints)

-- what enters
pub entering_next : (set : List Bool) (arcs : List Arc) (a tail head : ℕ) (lo hi sum total : ℤ) → HasEnds arcs a tail head lo hi → sum +ℤ entering_low set (drop a arcs) ≡ total →
    (sum +ℤ (if in_set set head && not (in_set set tail) then lo else pos 0)) +ℤ entering_low set (drop (a + 1) arcs) ≡ total
entering_next set arcs a tail head lo hi sum total h e =
    added sum _ _ (entering_low set (drop a arcs)) total
    (rw (add-one, h.tail_is, h.head_is, h.lo_is) (ap (entering_low set) (drop_read arcs a h.arc h.arc_is))) e

-- what leaves
pub leaving_next : (set : List Bool) (arcs : List Arc) (a tail head : ℕ) (lo hi sum total : ℤ) → HasEnds arcs a tail head lo hi → sum +ℤ leaving_high set (drop a arcs) ≡ total →
    (sum +ℤ (if in_set set tail && not (in_set set head) then hi else pos 0)) +ℤ leaving_high set (drop (a + 1) arcs) ≡ total
leaving_next set arcs a tail head lo hi sum total h e =
    added sum _ _ (leaving_high set (drop a arcs)) total
    (rw (add-one, h.tail_is, h.head_is, h.hi_is) (ap (leaving_high set) (drop_read arcs a h.arc h.arc_is))) e

-- how large the sums may be
pub small_next : (sum bound : ℤ) (counts : Bool) (a : ℕ) → unsigned_abs sum ≤ a * 2 ^ 60 → neg_ℤ (pos (2 ^ 60)) ≤ℤ bound → bound ≤ℤ pos (2 ^ 60) →
    unsigned_abs (sum +ℤ (if counts then bound else pos 0)) ≤ (a + 1) * 2 ^ 60
small_next sum bound true a h l u = omega (arith, abs_add sum bound, abs_at_most bound (2 ^ 60) l u)
small_next sum bound false a h l u = let e : sum +ℤ pos 0 ≡ sum = omega (arith, ints) in rw e (omega arith)

-- at the end
pub contradicts_from : (set : List Bool) (arcs : List Arc) (a : ℕ) (entering leaving : ℤ) → length arcs ≤ a → entering +ℤ entering_low set (drop a arcs) ≡ entering_low set arcs →
    leaving +ℤ leaving_high set (drop a arcs) ≡ leaving_high set arcs → leaving <ℤ entering → Contradicts arcs set
contradicts_from set arcs a entering leaving l e f t =
    let none : drop a arcs ≡ [] = drop_all a arcs l in
    let enter = subst (λ z. entering +ℤ entering_low set z ≡ entering_low set arcs) none e in
    let leave = subst (λ z. leaving +ℤ leaving_high set z ≡ leaving_high set arcs) none f in
    record { gap = omega (arith, ints, enter, leave, t) }
