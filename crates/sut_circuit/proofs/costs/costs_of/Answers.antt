use Rattle.std.proofs.Common.{rules, arith}
use Rattle.sut_circuit.specs.Building.{HoldsBounds}
use Rattle.sut_circuit.specs.Circuit.{IsCostOf}
use Rattle.sut_circuit.specs.RowCosts.{cost_at, span_at}
use Rattle.sut_circuit.proofs.Zips.{zip-more}
use Rattle.sut_circuit.proofs.costs.costs_of.Goals as goal

pub loop-m-preserved : goal.loop-m-preserved
loop-m-preserved c =
    let ms = c.args.measures.now in
    let pushed = c.in_ok-push.ensures.items in
    record {
      costs = zip-more (IsCostOf cost_at c.args.p.now) ms c.loop-m.costs.items c.push.new.self.items c.loop-m.m-index _ c.cost_of.result (omega arith) (search rules) pushed c.loop-m.invariant.costs c.cost_of.ensures.cost;
      bounds = zip-more (HoldsBounds span_at c.args.p.now) ms c.loop-m.costs.items c.push.new.self.items c.loop-m.m-index _ c.cost_of.result (omega arith) (search rules) pushed c.loop-m.invariant.bounds c.cost_of.ensures.bounds;
    }
