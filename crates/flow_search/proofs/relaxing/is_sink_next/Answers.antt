use Rattle.std.proofs.Common.{length, arith}
use Rattle.flow_search.proofs.Lists.{last_within}
use Rattle.flow_search.proofs.relaxing.is_sink_next.Goals as goal

pub lacks-requires-clause-there : goal.lacks-requires-clause-there
lacks-requires-clause-there g c = last_within c.args.nodes.now c.args.ready c.args.ready (length c.args.s.now.graph.nodes) (omega arith) (omega arith) c.requires.there
