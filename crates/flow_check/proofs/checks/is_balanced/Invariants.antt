use Rattle.std.proofs.Common.{◌≡◌, ℕ, ◌<◌, pos}
use Rattle.flow_graph.specs.Circulation.{excess}
use Rattle.flow_check.proofs.checks.is_balanced.Given as goal

abbrev pub invariant-loop-node : goal.invariant-loop-node
invariant-loop-node g l = (k : ℕ) → k < l.node → excess l.g.arcs l.flows k ≡ pos 0
