use Rattle.std.proofs.Common.{◌≡◌}
use Rattle.sut_circuit.proofs.Flowed.{written_upto}
use Rattle.sut_circuit.proofs.table_flows.table_over.Given as goal

abbrev pub invariant-loop-a : goal.invariant-loop-a
invariant-loop-a l = l.table ≡ written_upto l.p l.fn.table l.c.state.flows l.a
