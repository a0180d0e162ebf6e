use Rattle.sut_circuit.specs.Building.{IsBegun}
use Rattle.sut_circuit.proofs.growing.graph_of.Given as goal

abbrev pub invariant-loop-m : goal.invariant-loop-m
invariant-loop-m l = IsBegun l.p l.m-index l.graph
