use Rattle.std.proofs.Common.{◌≡◌}
use Rattle.flow_start.proofs.starting.write_flows.Given as goal

abbrev pub invariant-loop-a : goal.invariant-loop-a
invariant-loop-a g l = l.s ≡ record l.initial.s { flows = l.s.flows }
