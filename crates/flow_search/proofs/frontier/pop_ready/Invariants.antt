use Rattle.std.proofs.Common.{◌≡◌, ℕ, false, ◌≤◌}
use Rattle.flow_graph.specs.Contradiction.{in_set}
use Rattle.flow_search.specs.Frontier.{IsAmongReady}
use Rattle.flow_search.proofs.frontier.pop_ready.Given as goal

abbrev pub invariant-loop-ready : goal.invariant-loop-ready
invariant-loop-ready l = record {
  fewer : l.ready ≤ l.initial.ready;
  rest : (v : ℕ) → in_set l.set v ≡ false → IsAmongReady l.nodes l.initial.ready v → IsAmongReady l.nodes l.ready v;
}

abbrev pub decreases-loop-ready : goal.decreases-loop-ready
decreases-loop-ready l = l.ready
