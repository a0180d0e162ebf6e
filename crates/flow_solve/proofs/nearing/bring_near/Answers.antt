use Rattle.std.proofs.Common.{arith}
use Rattle.std.proofs.lemmas.Int.{ints}
use Rattle.flow_solve.proofs.Underway.{shown_meets}
use Rattle.flow_solve.proofs.nearing.bring_near.Goals as goal

pub returns-clause-potentials : goal.returns-clause-potentials
returns-clause-potentials g c = record {
  counted = c.graph.ensures.kept.potentials.counted;
  within = λ k d l. let r = c.close_gaps.ensures.potentials k d l in record { low = omega (arith, ints, r.0); high = r.1 };
}

pub returns-clause-condition : goal.returns-clause-condition
returns-clause-condition g c = λ step st m. shown_meets g.C.Cost.value_at c.args.s.now c.close_gaps.new.self c.close_gaps.ensures.shown c.close_gaps.ensures.rest step st m
