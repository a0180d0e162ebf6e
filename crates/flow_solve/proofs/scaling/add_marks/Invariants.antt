use Rattle.std.proofs.Common.{◌≡◌, ℕ, ◌<◌, ◌≤◌, ◌||◌, length}
use Rattle.flow_graph.specs.Contradiction.{in_set}
use Rattle.flow_solve.proofs.scaling.add_marks.Given as goal

abbrev pub invariant-loop-n : goal.invariant-loop-n
invariant-loop-n l = record {
  counted : length l.marks ≡ length l.initial.marks;
  below : (k : ℕ) → k < l.n → in_set l.marks k ≡ (in_set l.initial.marks k || in_set l.more k);
  above : (k : ℕ) → l.n ≤ k → in_set l.marks k ≡ in_set l.initial.marks k;
}
