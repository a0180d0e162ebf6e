use Rattle.std.proofs.Common.{◌≡◌, ◌*◌, ◌^◌, ◌≤◌, drop, ◌+ℤ◌, unsigned_abs}
use Rattle.flow_graph.specs.Contradiction.{entering_low, leaving_high}
use Rattle.flow_check.proofs.checks.contradicts.Given as goal

abbrev pub invariant-loop-a : goal.invariant-loop-a
invariant-loop-a g l = record {
  enter : l.entering +ℤ entering_low l.set (drop l.a l.g.arcs) ≡ entering_low l.set l.g.arcs;
  leave : l.leaving +ℤ leaving_high l.set (drop l.a l.g.arcs) ≡ leaving_high l.set l.g.arcs;
  enter_small : unsigned_abs l.entering ≤ l.a * 2 ^ 60;
  leave_small : unsigned_abs l.leaving ≤ l.a * 2 ^ 60;
}
