use Rattle.std.proofs.Common.{take}
use Rattle.std.specs.List.{AllZip}
use Rattle.sut_circuit.specs.Building.{HoldsBounds}
use Rattle.sut_circuit.specs.Circuit.{IsCostOf}
use Rattle.sut_circuit.specs.RowCosts.{cost_at, span_at}
use Rattle.sut_circuit.proofs.costs.costs_of.Given as goal

abbrev pub invariant-loop-m : goal.invariant-loop-m
invariant-loop-m l = record {
  costs : AllZip (IsCostOf cost_at l.p) (take l.m-index l.measures) l.costs.items;
  bounds : AllZip (HoldsBounds span_at l.p) (take l.m-index l.measures) l.costs.items;
}
