use Rattle.std.proofs.Common.{◌≤◌, ◌-◌}
use Rattle.flow_search.specs.Heap.{key_at, IsHeapButBelow, Sifts}
use Rattle.flow_search.proofs.heap.sift_down.Given as goal

abbrev pub invariant-loop-at : goal.invariant-loop-at
invariant-loop-at l = record {
  low : l.at ≤ l.count;
  sifts : Sifts l.initial.nodes l.initial.place l.nodes l.place l.count;
  heap : IsHeapButBelow (key_at l.dist l.nodes) l.count l.at;
}

abbrev pub decreases-loop-at : goal.decreases-loop-at
decreases-loop-at l = l.count - l.at
