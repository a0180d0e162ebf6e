use Rattle.std.proofs.Common.{rules, pos, get_or}
use Rattle.std.proofs.lemmas.Fn.{always_returns_same}
use Rattle.flow_graph.specs.declared.arcs.NodeId.{NodeId}
use Rattle.flow_residual.proofs.Closed.{at_most_from_sorted}
use Rattle.flow_residual.proofs.gaps.sort_nodes.Goals as goal

pub returns-clause-ascending : goal.returns-clause-ascending
returns-clause-ascending c = λ j l.
    at_most_from_sorted _ _ (c.sort_unstable_by_key.ensures.sorted (λ (n : NodeId). get_or c.args.potentials.now n.0 (pos 0)) (always_returns_same _ _ _ (λ a r q k. search rules)) j (record { 0 = 0 }) (search rules) l)
