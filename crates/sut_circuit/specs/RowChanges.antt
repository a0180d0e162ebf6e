-- A row put in for its measure, and what changes of a circuit then.
use Rattle.std.specs.Prelude.{◌≡◌, ℕ, ℤ, pos, if◌then◌else◌, is_some, slice_get, slice_set, slice_index_or, Some}
use Rattle.sut_measures.specs.declared.measures.Measure.{Measure}
use Rattle.sut_tables.specs.Changes.{row_replaced, with_row}
use Rattle.sut_tables.specs.ProblemFacts.{ProblemFacts}
use Rattle.sut_tables.specs.Problems.{row_at}
use Rattle.sut_tables.specs.RowFacts.{RowFacts}
use Rattle.flow_graph.specs.Updates.{SetsBounds}
use Rattle.flow_residual.specs.Flows.{nearest_within}
use Rattle.sut_circuit.specs.RowCosts.{ArcCost}
use Rattle.sut_circuit.specs.declared.circuits.Circuit.{Circuit}

-- the problem in which this is the measure's row
abbrev pub row_put : ProblemFacts → RowFacts → ProblemFacts
row_put p r = if is_some (row_at p r.measure) then row_replaced p r else with_row p r

-- the arc at this place gets these bounds and a cost, and its flow goes to the nearest number within them; all other
-- arcs, costs and flows stay
pub record ChangesArc (old new : Circuit) (a : ℕ) (lo hi : ℤ) : Type 0 where
  pub graph : SetsBounds old.state.graph new.state.graph a lo hi
  pub cost : ArcCost
  pub costs : new.state.costs ≡ slice_set old.state.costs a cost
  pub flows : new.state.flows ≡ slice_set old.state.flows a (nearest_within lo hi (slice_index_or old.state.flows a (pos 0)))

-- so does the arc of this measure
abbrev pub ChangesArcOf : Circuit → Circuit → Measure → ℤ → ℤ → Type 0
ChangesArcOf old new m lo hi = (a : ℕ) → slice_get old.state.graph.names a ≡ Some m → ChangesArc old new a lo hi
