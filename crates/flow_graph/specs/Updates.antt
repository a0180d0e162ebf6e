-- What adding a node or an arc gives: the first fault, or the graph with the new one last.
use Rattle.std.specs.Prelude.{◌≡◌, ℕ, Bool, not, ◌||◌, nat_le, if◌then◌else◌, [], ◌∷◌, ◌++◌, ℤ, int_lt, length, Option, Some, None, position, IsSomeAnd, slice_get, slice_set}
use Rattle.std.specs.List.{list_any}
use Rattle.flow_graph.specs.declared.arcs.Arc.{Arc}
use Rattle.flow_graph.specs.declared.graphs.GraphFault.{GraphFault}
use Rattle.flow_graph.specs.declared.graphs.GraphFault.TheVariants.{Duplicate, UnknownNode, Crossed, Full}
use Rattle.flow_graph.specs.Network.{Network}

module _ {N A : Type 0} where
  -- why a node of this name is not added
  abbrev pub node_fault : (N → N → Bool) → Network N A → N → Option GraphFault
  node_fault eq g name =
      if list_any (eq name) g.nodes then Some Duplicate
      else if nat_le 262_144 (length g.nodes) then Some Full
      else None

  -- why an arc of this name, between nodes of these names and with these bounds, is not added
  abbrev pub arc_fault : (N → N → Bool) → (A → A → Bool) → Network N A → A → N → N → ℤ → ℤ → Option GraphFault
  arc_fault node_eq arc_eq g name from to lo hi =
      if list_any (arc_eq name) g.names then Some Duplicate
      else if not (list_any (node_eq from) g.nodes) || not (list_any (node_eq to) g.nodes) then Some UnknownNode
      else if int_lt hi lo then Some Crossed
      else if nat_le 524_288 (length g.arcs) then Some Full
      else None

  -- the node goes last
  abbrev pub with_node : Network N A → N → Network N A
  with_node g name = record g { nodes = g.nodes ++ name ∷ [] }

  -- the arc goes last
  abbrev pub with_arc : Network N A → A → Arc → Network N A
  with_arc g name arc = record g { names = g.names ++ name ∷ []; arcs = g.arcs ++ arc ∷ [] }

  -- the arc goes last, between the places that these names have
  pub record AddsArc (eq : N → N → Bool) (old new : Network N A) (name : A) (from to : N) (lo hi : ℤ) : Type 0 where
    pub tail : ℕ
    pub head : ℕ
    pub tail_is : position (eq from) old.nodes ≡ Some tail
    pub head_is : position (eq to) old.nodes ≡ Some head
    pub new_is : new ≡ with_arc old name (record { tail = tail; head = head; lo = lo; hi = hi })

  -- the bounds of one arc change, and all else stays
  abbrev pub SetsBounds : Network N A → Network N A → ℕ → ℤ → ℤ → Type 0
  SetsBounds old new a lo hi =
      IsSomeAnd (slice_get old.arcs a) (λ arc. new ≡ record old { arcs = slice_set old.arcs a (record arc { lo = lo; hi = hi }) })
