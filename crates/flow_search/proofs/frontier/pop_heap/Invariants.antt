use Rattle.std.proofs.Common.{◌≡◌, ℕ, false, ◌≤◌}
use Rattle.flow_graph.specs.Contradiction.{in_set}
use Rattle.flow_search.specs.Heap.{IsAmong, IsQueue}
use Rattle.flow_search.proofs.frontier.pop_heap.Given as goal

abbrev pub invariant-loop-heaped : goal.invariant-loop-heaped
invariant-loop-heaped l = record {
  fewer : l.heaped ≤ l.initial.heaped;
  queue : IsQueue l.dist l.nodes l.place l.heaped;
  rest : (v : ℕ) → in_set l.set v ≡ false → IsAmong l.initial.nodes l.initial.heaped v → IsAmong l.nodes l.heaped v;
  no_more : (v : ℕ) → IsAmong l.nodes l.heaped v → IsAmong l.initial.nodes l.initial.heaped v;
}

abbrev pub decreases-loop-heaped : goal.decreases-loop-heaped
decreases-loop-heaped l = l.heaped
