-- A graph is stored as it should be with one more node, with one more arc, and with other bounds.
use Rattle.std.proofs.Common.{◌≡◌, ℕ, suc, ◌<◌, ◌≤◌, Bool, ℤ, List, [], ◌∷◌, ◌++◌, length, All, get_or, Option, Some, None, slice_get, slice_set, refl, sym, subst, arith, length-append}
use Rattle.std.specs.List.{IsDistinct}
use Rattle.std.proofs.lemmas.List.Elements.{All-push, All-set, All-get_or}
use Rattle.std.proofs.lemmas.List.{length-set}
use Rattle.std.proofs.lemmas.Option.{slice_get_read, slice_get_within, get_or_from_slice_get}
use Rattle.flow_graph.specs.declared.arcs.Arc.{Arc}
use Rattle.flow_graph.specs.declared.arcs.ArcId.{ArcId}
use Rattle.flow_graph.specs.declared.arcs.Links.{Links}
use Rattle.flow_graph.specs.Incidence.{IsStored}
use Rattle.flow_graph.specs.Network.{Network, AreBounds, IsArcAmong}
use Rattle.flow_graph.specs.Updates.{SetsBounds}
use Rattle.flow_graph.proofs.Linked.{start_is, starts_node, starts_more, links_more, starts_set, links_set}

-- an arc among some nodes is one among more
among_more : (n m : ℕ) (arc : Arc) → n ≤ m → IsArcAmong n arc → IsArcAmong m arc
among_more n m arc l h = record { tail = omega (arith, h.tail); head = omega (arith, h.head); bounds = h.bounds }

-- the arc at a place is one among the nodes
pub among_at : (nodes : ℕ) (arcs : List Arc) (a : ℕ) (arc : Arc) → All (IsArcAmong nodes) arcs → slice_get arcs a ≡ Some arc → IsArcAmong nodes arc
among_at nodes arcs a arc h e =
    subst (IsArcAmong nodes) (get_or_from_slice_get arcs a arc arc e) (All-get_or (IsArcAmong nodes) arcs a arc (slice_get_within arcs a arc e) h)

module _ {N A : Type 0} (node_eq : N → N → Bool) (arc_eq : A → A → Bool) (nodes : List N) (names : List A) (arcs : List Arc) (starts : List (Option ArcId)) (links : List Links)
    (stored : IsStored node_eq arc_eq (record { nodes = nodes; names = names; arcs = arcs }) starts links) where
  -- one more node
  pub stored_node : (more : List N) (started : List (Option ArcId)) (name : N) → more ≡ nodes ++ name ∷ [] → started ≡ starts ++ None ∷ [] → IsDistinct node_eq more → length nodes < 262_144 →
      IsStored node_eq arc_eq (record { nodes = more; names = names; arcs = arcs }) started links
  stored_node more started name e f apart few =
      let long : length more ≡ suc (length nodes) = rw e (omega (arith, length-append nodes (name ∷ []))) in
      record {
        network = record {
          node_limit = omega (arith, long);
          arc_limit = stored.network.arc_limit;
          named = stored.network.named;
          nodes_apart = apart;
          names_apart = stored.network.names_apart;
          arcs_fit = λ k d l. among_more _ _ _ (omega (arith, long)) (stored.network.arcs_fit k d l);
        };
        started = rw (long, f) (starts_node (length nodes) arcs starts stored.started stored.network.arcs_fit);
        linked = stored.linked;
      }

  -- one more arc
  pub stored_arc : (named : List A) (more : List Arc) (linked : List Links) (name : A) (arc : Arc) (link : Links) (place : ℕ) →
      named ≡ names ++ name ∷ [] → more ≡ arcs ++ arc ∷ [] → linked ≡ links ++ link ∷ [] → place ≡ length arcs →
      link.tail ≡ get_or starts arc.tail link.tail → link.head ≡ get_or starts arc.head link.head →
      IsDistinct arc_eq named → IsArcAmong (length nodes) arc → length arcs < 524_288 →
      IsStored node_eq arc_eq (record { nodes = nodes; names = named; arcs = more }) (slice_set (slice_set starts arc.tail (Some (record { 0 = place }))) arc.head (Some (record { 0 = place }))) linked
  stored_arc named more linked name arc link place en em el ep t h apart among few = record {
    network = record {
      node_limit = stored.network.node_limit;
      arc_limit = rw em (omega (arith, length-append arcs (arc ∷ [])));
      named = rw (en, em) (omega (arith, length-append arcs (arc ∷ []), length-append names (name ∷ []), stored.network.named));
      nodes_apart = stored.network.nodes_apart;
      names_apart = apart;
      arcs_fit = rw em (All-push (IsArcAmong (length nodes)) arcs arc stored.network.arcs_fit among);
    };
    started = rw (em, ep) (starts_more (length nodes) arcs starts arc stored.started among.tail among.head);
    linked = rw (em, el) (links_more arcs links arc link stored.linked
        (start_is (length nodes) arc.tail arcs starts link.tail stored.started among.tail t)
        (start_is (length nodes) arc.head arcs starts link.head stored.started among.head h));
  }

  -- other bounds of the arc at a place
  pub stored_bounds : (a : ℕ) (arc : Arc) (lo hi : ℤ) → a < length arcs → arc ≡ get_or arcs a arc → AreBounds lo hi →
      IsStored node_eq arc_eq (record { nodes = nodes; names = names; arcs = slice_set arcs a (record { tail = arc.tail; head = arc.head; lo = lo; hi = hi }) }) starts links
  stored_bounds a arc lo hi l e bounds =
      let there : slice_get arcs a ≡ Some arc = slice_get_read arcs (length arcs) a arc refl l e in
      let among : IsArcAmong (length nodes) arc = among_at (length nodes) arcs a arc stored.network.arcs_fit there in
      let other : Arc = record { tail = arc.tail; head = arc.head; lo = lo; hi = hi } in
      record {
        network = record {
          node_limit = stored.network.node_limit;
          arc_limit = omega (arith, length-set arcs a other, stored.network.arc_limit);
          named = omega (arith, length-set arcs a other, stored.network.named);
          nodes_apart = stored.network.nodes_apart;
          names_apart = stored.network.names_apart;
          arcs_fit = All-set (IsArcAmong (length nodes)) arcs a other (record { tail = among.tail; head = among.head; bounds = bounds }) stored.network.arcs_fit;
        };
        started = starts_set (length nodes) arcs starts a arc other stored.started there refl refl;
        linked = links_set arcs links a arc other stored.linked there refl refl;
      }

-- the change that other bounds make
pub bounds_set : {N A : Type 0} (nodes : List N) (names : List A) (arcs : List Arc) (g : Network N A) (a : ℕ) (arc : Arc) (lo hi : ℤ) →
    record { nodes = nodes; names = names; arcs = arcs } ≡ g → a < length g.arcs → arc ≡ get_or arcs a arc →
    SetsBounds g (record { nodes = nodes; names = names; arcs = slice_set arcs a (record { tail = arc.tail; head = arc.head; lo = lo; hi = hi }) }) a lo hi
bounds_set nodes names arcs g a arc lo hi e l r =
    let there : a < length arcs = subst (λ z. a < length z.arcs) (sym e) l in
    let read : slice_get arcs a ≡ Some arc = slice_get_read arcs (length arcs) a arc refl there r in
    subst (λ z. SetsBounds z (record { nodes = nodes; names = names; arcs = slice_set arcs a (record { tail = arc.tail; head = arc.head; lo = lo; hi = hi }) }) a lo hi) e
    (rw read refl)
