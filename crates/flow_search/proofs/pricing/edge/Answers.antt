use Rattle.std.proofs.lemmas.Int.{to_z-of_z}
use mir.Syntax.{w64}
use Rattle.flow_search.proofs.pricing.edge.Goals as goal

pub returns-then-up-clause-edge : goal.returns-then-up-clause-edge
returns-then-up-clause-edge g c = rw c.if-up.true (rw (to_z-of_z w64 c.args.step c.ranges.step) at c.edge_up.ensures.edge)

pub returns-else-up-clause-edge : goal.returns-else-up-clause-edge
returns-else-up-clause-edge g c = rw c.if-up.false (rw (to_z-of_z w64 c.args.step c.ranges.step) at c.edge_down.ensures.edge)
