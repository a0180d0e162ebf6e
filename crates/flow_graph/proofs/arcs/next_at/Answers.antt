use Rattle.flow_graph.proofs.Linked.{touching_there, next_at_head}
use Rattle.flow_graph.proofs.arcs.next_at.Goals as goal

pub bounds-arcs-place : goal.bounds-arcs-place
bounds-arcs-place c = touching_there c.args.node c.args.arcs.now c.args.arc.0 c.requires.touches

pub returns-else-arcs-place : goal.returns-else-arcs-place
returns-else-arcs-place c = next_at_head c.args.arcs.now c.args.links.now c.args.node c.args.arc.0 _ _ c.requires.linked c.requires.touches c.if-arcs-place.false
