-- What the two halves of the check give together.
use Rattle.std.proofs.Common.{◌≡◌, ℕ, ◌<◌, List, length, ℤ, pos, ◌+ℤ◌, ◌-ℤ◌, ◌≤ℤ◌, Some, slice_get, get_or, false, ◌∙◌, subst, ap, sym, arith}
use Rattle.std.specs.Prelude.{int_le, int_lt, IsTrue}
use Rattle.std.proofs.lemmas.Int.{ints}
use Rattle.std.proofs.lemmas.Option.{slice_get_within}
use Rattle.flow_cost.specs.Cost.{slope}
use Rattle.flow_cost.proofs.Rounding.{floor_by_one, ceil_by_one}
use Rattle.flow_graph.specs.declared.arcs.Arc.{Arc}
use Rattle.flow_graph.specs.Circulation.{IsFlow, excess}
use Rattle.flow_graph.specs.Condition.{rise, ShowsLeast}
use Rattle.flow_graph.proofs.Bounded.{flow_at, all_flows}
use Rattle.flow_graph.proofs.Lookups.{read_once, read_within}
use Rattle.flow_graph.proofs.ReadArcs.{HasEnds}
use Rattle.flow_check.specs.Shown.{IsShown, IsArcShown}

-- the check of one arc, by what the next unit and the last unit cost
pub shown_by : (value : ℤ → ℤ) (lo hi x rise : ℤ) → lo ≤ℤ x → x ≤ℤ hi → ((x +ℤ pos 1) ≤ℤ hi → rise ≤ℤ slope value x) → (lo ≤ℤ (x -ℤ pos 1) → slope value (x -ℤ pos 1) ≤ℤ rise) →
    IsShown value lo hi x rise
shown_by value lo hi x rise l h u d =
    let back : (x -ℤ pos 1) +ℤ pos 1 ≡ x = omega (arith, ints) in
    record {
      low = l;
      high = h;
      condition = record { up = λ k. rw ceil_by_one (u k); down = λ k. rw floor_by_one (rw back at (d k)) };
    }

pub shown_up : (value : ℤ → ℤ) (lo hi x rise : ℤ) → IsShown value lo hi x rise → (x +ℤ pos 1) ≤ℤ hi → rise ≤ℤ slope value x
shown_up value lo hi x rise s k = rw ceil_by_one at (s.condition.up k)

pub shown_down : (value : ℤ → ℤ) (lo hi x rise : ℤ) → IsShown value lo hi x rise → lo ≤ℤ (x -ℤ pos 1) → slope value (x -ℤ pos 1) ≤ℤ rise
shown_down value lo hi x rise s k =
    let back : (x -ℤ pos 1) +ℤ pos 1 ≡ x = omega (arith, ints) in
    rw back (rw floor_by_one at (s.condition.down k))

-- what a comparison of the unit's cost with the rise says, where there is such a unit
pub le_test : (cost slope rise : ℤ) (Q : Type 0) → cost ≡ slope → Q → (IsTrue (int_le cost rise) → Q → slope ≤ℤ rise) × ((Q → slope ≤ℤ rise) → IsTrue (int_le cost rise))
le_test cost slope rise Q e q = (λ t k. subst (λ z. z ≤ℤ rise) e (yes cost rise t), λ h. back cost rise (subst (λ z. z ≤ℤ rise) (sym e) (h q)))
  where
    yes : (a b : ℤ) → IsTrue (int_le a b) → a ≤ℤ b
    yes a b t = grind (arith, ints)

    back : (a b : ℤ) → a ≤ℤ b → IsTrue (int_le a b)
    back a b h = grind (arith, ints)

pub not_below : (a b : ℤ) → int_lt a b ≡ false → b ≤ℤ a
not_below a b e = grind (arith, ints)

pub next_below : (lo x : ℤ) → lo ≤ℤ x → (x ≡ lo → ⊥) → lo ≤ℤ (x -ℤ pos 1)
next_below lo x l ne = omega (arith, ints)

module _ {C : Type 0} (value : C → ℤ → ℤ) (nodes : ℕ) (arcs : List Arc) (costs : List C) (xs potentials : List ℤ) where
  pub shows_from : length costs ≡ length arcs → length xs ≡ length arcs → ((a : ℕ) → IsArcShown value arcs costs xs potentials a) →
      ((node : ℕ) → node < nodes → excess arcs xs node ≡ pos 0) → ShowsLeast value nodes arcs costs xs potentials
  shows_from costed counted shown balanced = record {
    circulation = record {
      bounded = all_flows arcs xs counted (λ a arc x h k. bounds a arc x (costs_at a arc h) h k);
      balanced = balanced;
    };
    condition = λ a arc c x h. (shown a arc c x h).condition;
  }
    where
      costs_at : (a : ℕ) (arc : Arc) → slice_get arcs a ≡ Some arc → (c : C) × (slice_get costs a ≡ Some c)
      costs_at a arc h = read_within costs a (omega (arith, costed, slice_get_within arcs a arc h))

      bounds : (a : ℕ) (arc : Arc) (x : ℤ) → ((c : C) × (slice_get costs a ≡ Some c)) → slice_get arcs a ≡ Some arc → slice_get xs a ≡ Some x → IsFlow arc x
      bounds a arc x p h k = let s = shown a arc p.0 x (record { arc_is = h; cost_is = p.1; number_is = k }) in record { low = s.low; high = s.high }

  pub shown_from : ShowsLeast value nodes arcs costs xs potentials → (a : ℕ) → IsArcShown value arcs costs xs potentials a
  shown_from s = λ a arc c x h. let f = flow_at arcs xs a arc x s.circulation.bounded h.arc_is h.number_is in
      record { low = f.low; high = f.high; condition = s.condition a arc c x h }

  -- the arc that the loop looks at
  module _ (a tail head : ℕ) (lo hi x r : ℤ) (c : C) (ends : HasEnds arcs a tail head lo hi) (cost_is : slice_get costs a ≡ Some c) (number_is : slice_get xs a ≡ Some x)
      (rise_is : r ≡ get_or potentials head (pos 0) -ℤ get_or potentials tail (pos 0)) where
    same_rise : r ≡ rise potentials ends.arc
    same_rise = rise_is ∙ ap (λ z. get_or potentials z (pos 0) -ℤ get_or potentials tail (pos 0)) ends.head_is ∙ ap (λ z. get_or potentials ends.arc.head (pos 0) -ℤ get_or potentials z (pos 0)) ends.tail_is

    pub shown_here : IsArcShown value arcs costs xs potentials a → IsShown (value c) lo hi x r
    shown_here h = rw (ends.lo_is, ends.hi_is, same_rise) (h ends.arc c x (record { arc_is = ends.arc_is; cost_is = cost_is; number_is = number_is }))

    pub shown_there : IsShown (value c) lo hi x r → IsArcShown value arcs costs xs potentials a
    shown_there s arc d y h =
        let same_arc : ends.arc ≡ arc = read_once arcs a ends.arc arc ends.arc_is h.arc_is in
        let same_cost : c ≡ d = read_once costs a c d cost_is h.cost_is in
        let same_number : x ≡ y = read_once xs a x y number_is h.number_is in
        let at : IsShown (value c) ends.arc.lo ends.arc.hi x (rise potentials ends.arc) = subst (λ z. IsShown (value c) z ends.arc.hi x (rise potentials ends.arc)) ends.lo_is (subst (λ z. IsShown (value c) lo z x (rise potentials ends.arc)) ends.hi_is (subst (λ z. IsShown (value c) lo hi x z) same_rise s)) in
        subst (λ z. IsShown (value d) z.lo z.hi y (rise potentials z)) same_arc (subst (λ z. IsShown (value d) ends.arc.lo ends.arc.hi z (rise potentials ends.arc)) same_number (subst (λ z. IsShown (value z) ends.arc.lo ends.arc.hi x (rise potentials ends.arc)) same_cost at))
