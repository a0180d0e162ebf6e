use Rattle.std.proofs.Common.{ℕ, ◌<◌, ◌≤◌}
use Rattle.flow_search.specs.Heap.{key_at, IsHeapButAt, Sifts}
use Rattle.flow_search.proofs.heap.sift_up.Given as goal

abbrev pub invariant-loop-at : goal.invariant-loop-at
invariant-loop-at l = record {
  low : l.at ≤ l.start;
  sifts : (n : ℕ) → l.start < n → Sifts l.initial.nodes l.initial.place l.nodes l.place n;
  heap : (n : ℕ) → l.start < n → IsHeapButAt (key_at l.dist l.initial.nodes) n l.start → IsHeapButAt (key_at l.dist l.nodes) n l.at;
}

abbrev pub decreases-loop-at : goal.decreases-loop-at
decreases-loop-at l = l.at
