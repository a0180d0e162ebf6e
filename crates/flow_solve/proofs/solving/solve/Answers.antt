use Rattle.std.proofs.Common.{rules, ◌≡◌, false, length, subst, ap, refl, IsTrue}
use Rattle.flow_graph.specs.Circulation.{IsCirculation}
use Rattle.flow_graph.specs.Contradiction.{Contradicts}
use Rattle.flow_graph.specs.Network.{Network}
use Rattle.flow_check.proofs.Refutes.{no_circulation}
use Rattle.flow_residual.specs.Flows.{Flow}
use Rattle.flow_solve.proofs.Cuts.{closed_off_contradicts}
use Rattle.flow_solve.proofs.Scaled.{scaled_from}
use Rattle.flow_solve.proofs.Underway.{few_from, near_from, least_from, rest_on, rest_flows, underway_from}
use Rattle.flow_solve.proofs.solving.solve.Goals as goal

pub returns-then-done-clause-least : goal.returns-then-done-clause-least
returns-then-done-clause-least g c = λ _.
    let done : IsTrue c.drain_all-done.result = search rules in
    least_from g.N.PartialEq.eq g.A.PartialEq.eq g.C.Cost.span_of g.C.Cost.value_at c.approach.new.s c.drain_all-done.new.s c.approach.new.steps c.drain_all-done.new.steps
    c.drain_all-done.ensures.underway c.graph-2.ensures.kept (c.drain_all-done.ensures.spent done)

pub returns-then-done-clause-cut : goal.returns-then-done-clause-cut
returns-then-done-clause-cut g c =
    let done : IsTrue c.drain_all-done.result = search rules in
    let shown = least_from g.N.PartialEq.eq g.A.PartialEq.eq g.C.Cost.span_of g.C.Cost.value_at c.approach.new.s c.drain_all-done.new.s c.approach.new.steps c.drain_all-done.new.steps
    c.drain_all-done.ensures.underway c.graph-2.ensures.kept (c.drain_all-done.ensures.spent done) in
    let rest = rest_on c.args.s.now c.approach.new.s c.drain_all-done.new.s (rest_on c.args.s.now c.settle_all.new.self c.approach.new.s (rest_flows c.args.s.now c.settle_all.new.self c.settle_all.ensures.rest) c.approach.ensures.rest) c.drain_all-done.ensures.underway.rest in
    let same : c.drain_all-done.new.s.graph ≡ c.args.s.now.graph = ap (λ (z : Flow g.row.N.Denot g.row.A.Denot g.row.C.Denot). z.graph) rest in
    let there : IsCirculation (length c.args.s.now.graph.nodes) c.args.s.now.graph.arcs c.drain_all-done.new.s.flows =
    subst (λ (z : Network g.row.N.Denot g.row.A.Denot). IsCirculation (length z.nodes) z.arcs c.drain_all-done.new.s.flows) same shown.circulation in
    (λ e. absurd (cc), λ none. absurd (none c.drain_all-done.new.s.flows there))

pub returns-then-done-clause-rest : goal.returns-then-done-clause-rest
returns-then-done-clause-rest g c = rest_on c.args.s.now c.approach.new.s c.drain_all-done.new.s (rest_on c.args.s.now c.settle_all.new.self c.approach.new.s (rest_flows c.args.s.now c.settle_all.new.self c.settle_all.ensures.rest) c.approach.ensures.rest) c.drain_all-done.ensures.underway.rest

pub returns-then-done-clause-few_ticks : goal.returns-then-done-clause-few_ticks
returns-then-done-clause-few_ticks g c =
    few_from g.N.PartialEq.eq g.A.PartialEq.eq g.C.Cost.span_of g.C.Cost.value_at g.met.C.Cost.lawful c.args.s.now c.settle_all.new.self c.drain_all-done.new.s c.args.steps.now c.drain_all-done.new.steps
    c.graph.ensures.kept c.settle_all.ensures.settled c.settle_all.ensures.rest
    (underway_from g.C.Cost.value_at c.settle_all.new.self c.approach.new.s c.drain_all-done.new.s c.args.steps.now c.approach.new.steps c.drain_all-done.new.steps c.approach.ensures.stays c.drain_all-done.ensures.underway)

pub returns-then-done-clause-near_settled : goal.returns-then-done-clause-near_settled
returns-then-done-clause-near_settled g c = λ _.
    near_from g.N.PartialEq.eq g.A.PartialEq.eq g.C.Cost.span_of g.C.Cost.value_at g.met.C.Cost.lawful c.args.s.now c.settle_all.new.self c.drain_all-done.new.s c.args.steps.now c.drain_all-done.new.steps
    c.graph.ensures.kept c.settle_all.ensures.settled c.settle_all.ensures.rest
    (underway_from g.C.Cost.value_at c.settle_all.new.self c.approach.new.s c.drain_all-done.new.s c.args.steps.now c.approach.new.steps c.drain_all-done.new.steps c.approach.ensures.stays c.drain_all-done.ensures.underway)

pub returns-then-done-clause-scaled_ticks : goal.returns-then-done-clause-scaled_ticks
returns-then-done-clause-scaled_ticks g c =
    scaled_from g.N.PartialEq.eq g.A.PartialEq.eq g.C.Cost.span_of g.C.Cost.value_at g.met.C.Cost.lawful c.args.s.now c.settle_all.new.self c.approach.new.s c.drain_all-done.new.s c.args.steps.now c.approach.new.steps c.drain_all-done.new.steps
    c.graph.ensures.kept c.settle_all.ensures.settled c.settle_all.ensures.rest c.graph-2.ensures.kept c.drain_all-done.ensures.underway c.approach.ensures.scaled

pub returns-else-done-clause-cut : goal.returns-else-done-clause-cut
returns-else-done-clause-cut g c =
    let stuck : c.drain_all-done.result ≡ false = search rules in
    let off = c.drain_all-done.ensures.closed stuck in
    let gap = closed_off_contradicts g.N.PartialEq.eq g.A.PartialEq.eq g.C.Cost.span_of c.drain_all-done.new.s c.drain_all-done.new.room.set.items off.0 c.graph-2.ensures.kept off.1 in
    let rest = rest_on c.args.s.now c.approach.new.s c.drain_all-done.new.s (rest_on c.args.s.now c.settle_all.new.self c.approach.new.s (rest_flows c.args.s.now c.settle_all.new.self c.settle_all.ensures.rest) c.approach.ensures.rest) c.drain_all-done.ensures.underway.rest in
    let same : c.drain_all-done.new.s.graph ≡ c.args.s.now.graph = ap (λ (z : Flow g.row.N.Denot g.row.A.Denot g.row.C.Denot). z.graph) rest in
    let gap_old : Contradicts c.args.s.now.graph.arcs c.drain_all-done.new.room.set.items = subst (λ (z : Network g.row.N.Denot g.row.A.Denot). Contradicts z.arcs c.drain_all-done.new.room.set.items) same gap in
    (λ e xs k. no_circulation (length c.args.s.now.graph.nodes) c.args.s.now.graph.arcs c.drain_all-done.new.room.set.items c.graph.ensures.kept.network.arcs_fit gap_old xs k, λ none. refl)

pub returns-else-done-clause-set : goal.returns-else-done-clause-set
returns-else-done-clause-set g c = λ _.
    let stuck : c.drain_all-done.result ≡ false = search rules in
    let off = c.drain_all-done.ensures.closed stuck in
    closed_off_contradicts g.N.PartialEq.eq g.A.PartialEq.eq g.C.Cost.span_of c.drain_all-done.new.s c.drain_all-done.new.room.set.items off.0 c.graph-2.ensures.kept off.1

pub returns-else-done-clause-few_ticks : goal.returns-else-done-clause-few_ticks
returns-else-done-clause-few_ticks g c =
    few_from g.N.PartialEq.eq g.A.PartialEq.eq g.C.Cost.span_of g.C.Cost.value_at g.met.C.Cost.lawful c.args.s.now c.settle_all.new.self c.drain_all-done.new.s c.args.steps.now c.drain_all-done.new.steps
    c.graph.ensures.kept c.settle_all.ensures.settled c.settle_all.ensures.rest
    (underway_from g.C.Cost.value_at c.settle_all.new.self c.approach.new.s c.drain_all-done.new.s c.args.steps.now c.approach.new.steps c.drain_all-done.new.steps c.approach.ensures.stays c.drain_all-done.ensures.underway)

pub returns-else-done-clause-scaled_ticks : goal.returns-else-done-clause-scaled_ticks
returns-else-done-clause-scaled_ticks g c =
    scaled_from g.N.PartialEq.eq g.A.PartialEq.eq g.C.Cost.span_of g.C.Cost.value_at g.met.C.Cost.lawful c.args.s.now c.settle_all.new.self c.approach.new.s c.drain_all-done.new.s c.args.steps.now c.approach.new.steps c.drain_all-done.new.steps
    c.graph.ensures.kept c.settle_all.ensures.settled c.settle_all.ensures.rest c.graph-2.ensures.kept c.drain_all-done.ensures.underway c.approach.ensures.scaled
