use Rattle.std.proofs.Common.{◌≡◌, map, take}
use Rattle.sut_tables.specs.Values.{value_of}
use Rattle.sut_circuit.proofs.table_flows.flow_of.Given as goal

abbrev pub invariant-loop-a : goal.invariant-loop-a
invariant-loop-a l = take l.a l.out ≡ map (value_of l.t) (take l.a l.c.state.graph.names)
