-- How often a solver may augment, and how far a flow may go.
use Rattle.std.specs.Prelude.{◌≡◌, ℕ, zero, suc, ◌+◌, ◌*◌, ◌^◌, ◌≤◌, List, ℤ, pos, ◌+ℤ◌, ◌-ℤ◌, ◌≤ℤ◌, ◌<ℤ◌, length, slice_get, unsigned_abs, Some}
use Rattle.std.specs.Int.{int_max}
use Rattle.flow_graph.specs.declared.arcs.Arc.{Arc}
use Rattle.flow_graph.specs.Circulation.{excess}
use Rattle.flow_residual.specs.Flows.{Flow, SettlesTo}

-- the sum of the positive excesses of the nodes below this one
abbrev pub surplus_below : List Arc → List ℤ → ℕ → ℤ
surplus_below arcs xs zero = pos 0
surplus_below arcs xs (suc n) = surplus_below arcs xs n +ℤ int_max (pos 0) (excess arcs xs n)

-- no flow is further than e from what it was
abbrev pub StaysWithin : ℤ → List ℤ → List ℤ → Type 0
StaysWithin e before after = (a : ℕ) (x y : ℤ) → slice_get before a ≡ Some x → slice_get after a ≡ Some y → pos (unsigned_abs (y -ℤ x)) ≤ℤ e

module _ {N A C : Type 0} where
  -- the sum of the positive excesses that these flows would leave
  abbrev pub surplus : Flow N A C → List ℤ → ℤ
  surplus s xs = surplus_below s.graph.arcs xs (length s.graph.nodes)

  -- the flows that settling at step 1 would leave on the state at entry have a surplus of at most 4,096: then there are
  -- at most as many ticks as the surplus
  abbrev pub FewTicks : (C → ℤ → ℤ) → Flow N A C → ℕ → Type 0
  FewTicks value old ticks =
      (settled : List ℤ) → SettlesTo value (pos 1) old settled → surplus old settled ≤ℤ pos 4_096 →
      pos ticks ≤ℤ surplus old settled

  -- then no flow goes further from what settling would leave than the surplus
  abbrev pub NearSettled : (C → ℤ → ℤ) → Flow N A C → List ℤ → Type 0
  NearSettled value old flows =
      (settled : List ℤ) → SettlesTo value (pos 1) old settled → surplus old settled ≤ℤ pos 4_096 →
      StaysWithin (surplus old settled) settled flows

  -- how many nodes and arcs there are
  abbrev pub size_of : Flow N A C → ℕ
  size_of s = length s.graph.nodes + length s.graph.arcs

  -- the surplus that settling at step 1 would leave on the state at entry is above 4,096, and a power of two up to 2^40
  -- for each node and arc is at least as much: then the ticks are at most 16 for each node, each arc and each power from 0
  -- up to that one. The least such power gives the least bound
  abbrev pub ScaledTicks : (C → ℤ → ℤ) → Flow N A C → ℕ → Type 0
  ScaledTicks value old ticks =
      (settled : List ℤ) → SettlesTo value (pos 1) old settled → pos 4_096 <ℤ surplus old settled →
      (k : ℕ) → k ≤ 40 → surplus old settled ≤ℤ pos (size_of old * 2 ^ k) →
      ticks ≤ 16 * size_of old * (k + 1)
