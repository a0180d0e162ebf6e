-- Where a node or an arc is added without a fault.
use Rattle.std.proofs.Common.{◌≡◌, ◌<◌, length, None, Bool, true, false, ℤ, ◌≤ℤ◌, refl, arith}
use Rattle.std.specs.Prelude.{int_lt}
use Rattle.std.specs.List.{list_any}
use Rattle.std.proofs.lemmas.Bool.{lt-leb}
use Rattle.std.proofs.lemmas.Int.{ints}
use Rattle.flow_graph.specs.Network.{Network}
use Rattle.flow_graph.specs.Updates.{node_fault, arc_fault}

in-order : (lo hi : ℤ) → lo ≤ℤ hi → int_lt hi lo ≡ false
in-order lo hi h = grind (arith, ints)

module _ {N A : Type 0} (node_eq : N → N → Bool) (g : Network N A) where
  pub node-fits : (name : N) → list_any (node_eq name) g.nodes ≡ false → length g.nodes < 262_144 → node_fault node_eq g name ≡ None
  node-fits name fresh room = rw (fresh, lt-leb 262_144 (length g.nodes) room) refl

  pub arc-fits : (arc_eq : A → A → Bool) (name : A) (from to : N) (lo hi : ℤ) → list_any (arc_eq name) g.names ≡ false
      → list_any (node_eq from) g.nodes ≡ true → list_any (node_eq to) g.nodes ≡ true → lo ≤ℤ hi → length g.arcs < 524_288
      → arc_fault node_eq arc_eq g name from to lo hi ≡ None
  arc-fits arc_eq name from to lo hi fresh there_from there_to ordered room =
      rw (fresh, there_from, there_to, in-order lo hi ordered, lt-leb 524_288 (length g.arcs) room) refl
