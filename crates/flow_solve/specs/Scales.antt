-- Sets of nodes that no step can leave, and how far a surplus can fall.
use Rattle.std.specs.Prelude.{◌≡◌, ℕ, ◌<◌, Bool, true, false, if◌then◌else◌, List, [], ◌∷◌, ℤ, pos, ◌+ℤ◌, ◌-ℤ◌, neg_ℤ, ◌≤ℤ◌, ◌<ℤ◌, length, slice_get, Some}
use Rattle.flow_graph.specs.declared.arcs.Arc.{Arc}
use Rattle.flow_graph.specs.Contradiction.{in_set}
use Rattle.flow_residual.specs.Flows.{Flow, SettlesTo, excess_of}
use Rattle.flow_residual.specs.Path.{IsSink}
use Rattle.flow_solve.specs.Bounds.{surplus}

-- the least that an arc can add to the sum of the excesses of a set, whether its head and its tail are in the set or not
abbrev pub least_added : Bool → Bool → ℤ → ℤ → ℤ
least_added head tail lo hi = if head then (if tail then pos 0 else lo) else (if tail then neg_ℤ hi else pos 0)

-- the least that the excesses of a set can sum to, whatever the flows within the bounds
abbrev pub least_excess : (ℕ → Bool) → List Arc → ℤ
least_excess set [] = pos 0
least_excess set (arc ∷ arcs) = least_added (set arc.head) (set arc.tail) arc.lo arc.hi +ℤ least_excess set arcs

module _ {N A C : Type 0} where
  -- no arc has room for the step out of the set, and no node in it lacks the step
  pub record IsShut (step : ℤ) (s : Flow N A C) (set : ℕ → Bool) : Type 0 where
    pub leaving : (a : ℕ) (arc : Arc) (x : ℤ) → slice_get s.graph.arcs a ≡ Some arc → slice_get s.flows a ≡ Some x → set arc.tail ≡ true → set arc.head ≡ false → arc.hi <ℤ (x +ℤ step)
    pub entering : (a : ℕ) (arc : Arc) (x : ℤ) → slice_get s.graph.arcs a ≡ Some arc → slice_get s.flows a ≡ Some x → set arc.head ≡ true → set arc.tail ≡ false → (x -ℤ step) <ℤ arc.lo
    pub no_sink : (n : ℕ) → n < length s.graph.nodes → set n ≡ true → IsSink s step n → ⊥

  -- all that is left of excesses of the step lies in a set that is shut
  pub record IsDrained (step : ℤ) (s : Flow N A C) : Type 0 where
    pub set : ℕ → Bool
    pub shut : IsShut step s set
    pub spent : (n : ℕ) → n < length s.graph.nodes → set n ≡ false → excess_of s n <ℤ step

  -- so far as the nodes below n go: the nodes put aside are a set that is shut
  pub record IsPassed (step : ℤ) (s : Flow N A C) (aside : List Bool) (n : ℕ) : Type 0 where
    pub shut : IsShut step s (in_set aside)
    pub spent : (k : ℕ) → k < n → k < length s.graph.nodes → in_set aside k ≡ false → excess_of s k <ℤ step

  -- the surplus that these flows leave can fall by this much at most: some set keeps it from falling further
  pub record FallsAtMost (most : ℤ) (s : Flow N A C) (flows : List ℤ) : Type 0 where
    pub set : ℕ → Bool
    pub close : surplus s flows ≤ℤ (least_excess set s.graph.arcs +ℤ most)

  -- so can the surplus that settling at the step would leave
  abbrev pub SettlesNear : (C → ℤ → ℤ) → ℤ → ℤ → Flow N A C → Type 0
  SettlesNear value step most s = (settled : List ℤ) → SettlesTo value step s settled → FallsAtMost most s settled
