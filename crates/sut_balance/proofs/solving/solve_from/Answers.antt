use Rattle.std.proofs.Common.{◌-◌, arith, length}
use Rattle.std.proofs.lemmas.Int.{ints}
use Rattle.flow_solve.proofs.Sums.{surplus_low}
use Rattle.sut_balance.proofs.Restarted.{few_again, near_again}
use Rattle.sut_balance.proofs.solving.solve_from.Goals as goal

pub returns-in_err-start_if_far-clause-few_ticks : goal.returns-in_err-start_if_far-clause-few_ticks
returns-in_err-start_if_far-clause-few_ticks g c = λ settled h few.
    let low = surplus_low c.args.s.now.graph.arcs settled (length c.args.s.now.graph.nodes) in
    omega (arith, ints, low)

pub returns-clause-few_ticks : goal.returns-clause-few_ticks
returns-clause-few_ticks g c =
    few_again g.C.Cost.value_at c.args.s.now c.start_if_far.new.s c.start_if_far.ensures.near (c.solve.new.steps - c.args.steps.now) c.solve.ensures.few_ticks

pub returns-clause-near_settled : goal.returns-clause-near_settled
returns-clause-near_settled g c = λ least.
    near_again g.C.Cost.value_at c.args.s.now c.start_if_far.new.s c.start_if_far.ensures.near c.solve.new.s.flows (c.solve.ensures.near_settled least)
