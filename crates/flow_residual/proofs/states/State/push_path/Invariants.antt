use Rattle.std.proofs.Common.{◌≡◌, List}
use Rattle.flow_residual.specs.Path.{Move}
use Rattle.flow_residual.specs.Rooms.{HoldsPath}
use Rattle.flow_residual.proofs.Along.{IsLeft}
use Rattle.flow_residual.proofs.states.State.push_path.Given as goal

abbrev pub invariant-loop-made : goal.invariant-loop-made
invariant-loop-made g l = record {
  rest : l.self ≡ record l.initial.self { flows = l.self.flows };
  left : (ms : List Move) → HoldsPath l.initial.self l.step l.room ms → IsLeft l.self l.initial.self l.step l.room ms l.to.0 l._made;
}
