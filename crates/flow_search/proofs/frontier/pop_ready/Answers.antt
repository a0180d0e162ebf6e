use Rattle.std.proofs.Common.{◌≡◌, ◌-◌, length, false, arith, rules}
use Rattle.flow_graph.specs.Contradiction.{in_set}
use Rattle.flow_residual.specs.Gaps.{node_at}
use Rattle.flow_search.proofs.Lists.{last_within, last_among}
use Rattle.flow_search.proofs.frontier.pop_ready.Goals as goal

pub bounds-set-u : goal.bounds-set-u
bounds-set-u c = last_within c.args.nodes.now c.loop-ready.ready c.args.ready.now (length c.args.set.now) (omega arith) c.loop-ready.invariant.fewer c.requires.within

pub returns-then-not-set-u-clause-popped : goal.returns-then-not-set-u-clause-popped
returns-then-not-set-u-clause-popped c =
    let apart : in_set c.args.set.now (node_at c.args.nodes.now (length c.args.nodes.now - c.loop-ready.ready)) ≡ false = first_of (cc, search rules, grind arith) in
    (last_among c.args.nodes.now c.loop-ready.ready c.args.ready.now (omega arith) c.loop-ready.invariant.fewer, apart)
