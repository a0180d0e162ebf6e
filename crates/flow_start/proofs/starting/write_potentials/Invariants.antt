use Rattle.std.proofs.Common.{◌≡◌}
use Rattle.flow_start.proofs.starting.write_potentials.Given as goal

abbrev pub invariant-loop-n : goal.invariant-loop-n
invariant-loop-n g l = l.s ≡ record l.initial.s { potentials = l.s.potentials }
