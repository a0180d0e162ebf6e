use Rattle.std.proofs.Common.{length}
use Rattle.flow_check.proofs.Shown.{shows_from, shown_from}
use Rattle.flow_check.proofs.WeakDuality.{least_circulation}
use Rattle.flow_check.proofs.checks.shows_least.Goals as goal

pub returns-then-are_shown-clause-shows : goal.returns-then-are_shown-clause-shows
returns-then-are_shown-clause-shows g c = (
  λ t. shows_from g.C.Cost.value_at (length c.args.g.now.nodes) c.args.g.now.arcs c.args.costs.now c.args.flows.now c.args.potentials.now c.requires.costs.counted c.requires.flows
      (c.are_shown.ensures.0 c.if-are_shown.true) (c.is_balanced.ensures.balanced.0 t),
  λ s. c.is_balanced.ensures.balanced.1 s.circulation.balanced,
)

pub returns-then-are_shown-clause-least : goal.returns-then-are_shown-clause-least
returns-then-are_shown-clause-least g c = λ t.
    least_circulation g.C.Cost.value_at g.C.Cost.span_of g.met.C.Cost.lawful c.args.potentials.now (length c.args.g.now.nodes) c.args.g.now.arcs c.args.costs.now c.args.flows.now
    c.is_balanced.ensures.network.arcs_fit c.requires.costs
    (shows_from g.C.Cost.value_at (length c.args.g.now.nodes) c.args.g.now.arcs c.args.costs.now c.args.flows.now c.args.potentials.now c.requires.costs.counted c.requires.flows
    (c.are_shown.ensures.0 c.if-are_shown.true) (c.is_balanced.ensures.balanced.0 t))

pub returns-else-are_shown-clause-shows : goal.returns-else-are_shown-clause-shows
returns-else-are_shown-clause-shows g c = (
  λ t. absurd (let f = c.if-are_shown.false in cc),
  λ s. c.are_shown.ensures.1 (shown_from g.C.Cost.value_at (length c.args.g.now.nodes) c.args.g.now.arcs c.args.costs.now c.args.flows.now c.args.potentials.now s),
)
