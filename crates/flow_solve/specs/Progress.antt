-- What one step along a path does, what many do, and where none is left.
use Rattle.std.specs.Prelude.{◌≡◌, ◌↔◌, ℕ, ◌<◌, ◌≤◌, Bool, true, List, ℤ, pos, ◌+ℤ◌, ◌-ℤ◌, ◌*ℤ◌, ◌≤ℤ◌, ◌<ℤ◌, length, slice_get, Some}
use Rattle.flow_residual.specs.Flows.{Flow, MeetsAll, excess_of, only_at}
use Rattle.flow_residual.specs.Path.{IsSink, Reaches}
use Rattle.flow_solve.specs.Bounds.{StaysWithin, surplus}
use Rattle.flow_solve.specs.Scales.{IsShut}

module _ {N A C : Type 0} (value : C → ℤ → ℤ) (step : ℤ) where
  -- the step goes from the source to a node that lacked it
  pub record Augments (old new : Flow N A C) (source : ℕ) : Type 0 where
    pub last : ℕ
    pub there : last < length old.graph.nodes
    pub sink : IsSink old step last
    pub rest : new ≡ record old { flows = new.flows; potentials = new.potentials }
    pub counted : length new.flows ≡ length old.flows
    pub excess : (n : ℕ) → n < length old.graph.nodes → excess_of new n ≡ (excess_of old n -ℤ only_at source step n) +ℤ only_at last step n
    pub near : StaysWithin step old.flows new.flows
    pub condition : MeetsAll value step new
    pub shut : (set : ℕ → Bool) → IsShut step old set → IsShut step new set

  -- no step can go from the source, and the potentials alone have changed
  pub record Stays (old new : Flow N A C) : Type 0 where
    pub rest : new ≡ record old { potentials = new.potentials }
    pub condition : MeetsAll value step new

  -- between two counts of ticks: each tick took the step off the surplus, and moved each flow by the step at most. No step
  -- went into a set that was shut
  pub record IsUnderway (start now : Flow N A C) (before after : ℕ) : Type 0 where
    pub rest : now ≡ record start { flows = now.flows; potentials = now.potentials }
    pub counted : length now.flows ≡ length start.flows
    pub condition : MeetsAll value step now
    pub counts_up : before ≤ after
    pub balance : pos after *ℤ step +ℤ surplus now now.flows ≡ pos before *ℤ step +ℤ surplus start start.flows
    pub near : StaysWithin (pos after *ℤ step -ℤ pos before *ℤ step) start.flows now.flows
    pub spent : (n : ℕ) → n < length start.graph.nodes → excess_of start n <ℤ step → excess_of now n <ℤ step
    pub shut : (set : ℕ → Bool) → IsShut step start set → IsShut step now set

-- the set has the nodes that a node with an excess of the step reaches, and none of them lacks the step
pub record IsClosedOff {N A C : Type 0} (step : ℤ) (s : Flow N A C) (source : ℕ) (set : List Bool) : Type 0 where
  pub there : source < length s.graph.nodes
  pub excess : step ≤ℤ excess_of s source
  pub members : (n : ℕ) → n < length s.graph.nodes → (slice_get set n ≡ Some true) ↔ Reaches s step source n
  pub no_sink : (n : ℕ) → n < length s.graph.nodes → IsSink s step n → Reaches s step source n → ⊥
