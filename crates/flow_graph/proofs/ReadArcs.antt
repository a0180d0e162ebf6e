-- What `ends` and `bounds` say together of one arc.
use Rattle.std.proofs.Common.{◌≡◌, ℕ, List, ℤ, Some, slice_get, IsSomeAnd, ap, ◌∙◌}
use Rattle.flow_graph.specs.declared.arcs.Arc.{Arc}
use Rattle.flow_graph.proofs.Lookups.{read_once, some_and}

-- the arc at a place has these ends and these bounds
pub record HasEnds (arcs : List Arc) (a tail head : ℕ) (lo hi : ℤ) : Type 0 where
  pub arc : Arc
  pub arc_is : slice_get arcs a ≡ Some arc
  pub tail_is : tail ≡ arc.tail
  pub head_is : head ≡ arc.head
  pub lo_is : lo ≡ arc.lo
  pub hi_is : hi ≡ arc.hi

pub ends_from : (arcs : List Arc) (a tail head : ℕ) (lo hi : ℤ) → IsSomeAnd (slice_get arcs a) (λ arc. (tail ≡ arc.tail) × (head ≡ arc.head)) →
    IsSomeAnd (slice_get arcs a) (λ arc. (lo ≡ arc.lo) × (hi ≡ arc.hi)) → HasEnds arcs a tail head lo hi
ends_from arcs a tail head lo hi ends bounds =
    let p = some_and (slice_get arcs a) (λ arc. (tail ≡ arc.tail) × (head ≡ arc.head)) ends in
    let q = some_and (slice_get arcs a) (λ arc. (lo ≡ arc.lo) × (hi ≡ arc.hi)) bounds in
    let same : q.0 ≡ p.0 = read_once arcs a q.0 p.0 q.1 p.1 in
    record { arc = p.0; arc_is = p.1; tail_is = p.2.0; head_is = p.2.1; lo_is = q.2.0 ∙ ap (λ z. z.lo) same; hi_is = q.2.1 ∙ ap (λ z. z.hi) same }
