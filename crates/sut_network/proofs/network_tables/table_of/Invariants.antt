use Rattle.std.proofs.Common.{◌≡◌}
use Rattle.sut_tables.specs.Tables.{zeros}
use Rattle.sut_circuit.proofs.Flowed.{written_upto}
use Rattle.sut_network.specs.Networks.{times}
use Rattle.sut_network.proofs.network_tables.table_of.Given as goal

abbrev pub invariant-loop-a : goal.invariant-loop-a
invariant-loop-a g l = l.table ≡ written_upto l.p (zeros l.p) (times l.by l.n.state.flows) l.a
