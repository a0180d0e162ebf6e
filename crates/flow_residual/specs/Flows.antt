-- What a contract sees of a state: a graph with a cost and a number on each arc, and a potential at each node.
use Rattle.std.specs.Prelude.{◌≡◌, ℕ, ◌^◌, ◌<◌, ◌==◌, if◌then◌else◌, Bool, List, ℤ, pos, ◌≤ℤ◌, length, slice_get, Some}
use Rattle.std.specs.List.{AllZip}
use Rattle.std.specs.Int.{int_max, int_min}
use Rattle.flow_cost.specs.Settle.{IsNearestSettled}
use Rattle.flow_graph.specs.declared.arcs.Arc.{Arc}
use Rattle.flow_graph.specs.Network.{Network, IsNetwork}
use Rattle.flow_graph.specs.Circulation.{IsFlow, excess}
use Rattle.flow_graph.specs.Condition.{rise, Carries, AllMeet, FitSpans, ArePotentials}

pub record Flow (N A C : Type 0) : Type 0 where
  pub graph : Network N A
  pub costs : List C
  pub flows : List ℤ
  pub potentials : List ℤ

module _ {N A C : Type 0} where
  -- what every state keeps
  pub record IsFlowOf (node_eq : N → N → Bool) (arc_eq : A → A → Bool) (span : C → ℤ) (s : Flow N A C) : Type 0 where
    pub network : IsNetwork node_eq arc_eq s.graph
    pub spans : FitSpans span s.graph.arcs s.costs
    pub counted : length s.flows ≡ length s.graph.arcs
    pub bounded : AllZip IsFlow s.graph.arcs s.flows
    pub potentials : ArePotentials (pos (10 ^ 24)) (length s.graph.nodes) s.potentials

  -- inflow less outflow
  abbrev pub excess_of : Flow N A C → ℕ → ℤ
  excess_of s node = excess s.graph.arcs s.flows node

  -- the arc at a place, with its cost and its flow
  abbrev pub HasArc : Flow N A C → ℕ → Arc → C → ℤ → Type 0
  HasArc s a arc c x = Carries s.graph.arcs s.costs s.flows a arc c x

  -- the condition at a step holds on every arc
  abbrev pub MeetsAll : (C → ℤ → ℤ) → ℤ → Flow N A C → Type 0
  MeetsAll value step s = AllMeet value step s.graph.arcs s.costs s.flows s.potentials

  -- each flow is where the arc's old flow settles at a step
  pub record SettlesTo (value : C → ℤ → ℤ) (step : ℤ) (s : Flow N A C) (settled : List ℤ) : Type 0 where
    pub counted : length settled ≡ length s.flows
    pub each : (a : ℕ) (arc : Arc) (c : C) (x y : ℤ) → HasArc s a arc c x → slice_get settled a ≡ Some y →
        IsNearestSettled (value c) x arc.lo arc.hi step (rise s.potentials arc) y

-- the number within the bounds that is nearest to x
abbrev pub nearest_within : ℤ → ℤ → ℤ → ℤ
nearest_within lo hi x = int_max lo (int_min hi x)

-- a step that the solver takes
pub record IsStep (step : ℤ) : Type 0 where
  pub low : pos 1 ≤ℤ step
  pub high : step ≤ℤ pos (2 ^ 40)

-- a state, and the excess of each of its nodes
pub record IsKept {N A C : Type 0} (node_eq : N → N → Bool) (arc_eq : A → A → Bool) (span : C → ℤ) (s : Flow N A C) (excesses : List ℤ) : Type 0 where
  pub flow : IsFlowOf node_eq arc_eq span s
  pub counted : length excesses ≡ length s.graph.nodes
  pub each : (n : ℕ) → n < length s.graph.nodes → slice_get excesses n ≡ Some (excess_of s n)

-- a number at one place, and 0 at every other
abbrev pub only_at : ℕ → ℤ → ℕ → ℤ
only_at place x n = if place == n then x else pos 0
