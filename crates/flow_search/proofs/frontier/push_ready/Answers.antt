use Rattle.std.proofs.Common.{arith}
use Rattle.flow_search.proofs.Lists.{pushed_before}
use Rattle.flow_search.proofs.frontier.push_ready.Goals as goal

pub returns-then-last-nodes-clause-kept : goal.returns-then-last-nodes-clause-kept
returns-then-last-nodes-clause-kept c = pushed_before c.args.nodes.now c.args.ready.now c.args.v c.requires (omega arith)
