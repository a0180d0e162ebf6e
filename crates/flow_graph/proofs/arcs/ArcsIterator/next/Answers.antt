use Rattle.std.proofs.Common.{rules, sym, ◌∙◌}
use Rattle.flow_graph.proofs.Linked.{list_steps, last_touches}
use Rattle.flow_graph.proofs.arcs.ArcsIterator.next.Goals as goal

pub invariant_of-self : goal.invariant_of-self
invariant_of-self c = record {
  linked = c.self.invariant.linked;
  touches = λ a h. last_touches c.self.inside.node c.self.inside.arcs.now c.in_ok-id.id.0 a (sym c.next_at-self-inside.ensures ∙ h);
}

pub returns-clause-steps : goal.returns-clause-steps
returns-clause-steps c =
    sym c.self.view_is ∙ list_steps c.self.inside.node c.self.inside.arcs.now c.self.inside.next c.next_at-self-inside.result c.in_ok-id.id c.in_ok-id.was (c.self.invariant.touches c.in_ok-id.id c.in_ok-id.was) c.next_at-self-inside.ensures

pub returns-clause-goes : goal.returns-clause-goes
returns-clause-goes c =
    rw (sym c.self.view_is ∙ list_steps c.self.inside.node c.self.inside.arcs.now c.self.inside.next c.next_at-self-inside.result c.in_ok-id.id c.in_ok-id.was (c.self.invariant.touches c.in_ok-id.id c.in_ok-id.was) c.next_at-self-inside.ensures)
    (search rules)
