-- How a way that is followed back grows, and that it is a path where it comes to the source.
use Rattle.std.proofs.Common.{◌≡◌, ◌≢◌, ℕ, ◌<◌, Bool, true, false, List, [], ◌∷◌, length, set, get_or, Some, None, Option, IfSome, slice_get, refl, ap, subst, sym, ◌∙◌, arith, ℤ, ◌-ℤ◌, All, AllPairs, get_or-set_same, get_or-set_other}
use Rattle.std.proofs.lemmas.Int.{ints}
use Rattle.std.proofs.lemmas.List.Elements.{All-nil, All-cons}
use Rattle.std.proofs.lemmas.List.Kept.{AllPairs-cons}
use Rattle.flow_graph.specs.declared.arcs.ArcId.{ArcId}
use Rattle.flow_graph.specs.declared.arcs.NodeId.{NodeId}
use Rattle.flow_graph.specs.Contradiction.{in_set}
use Rattle.flow_residual.specs.declared.rooms.Room.{Room}
use Rattle.flow_residual.specs.Flows.{Flow}
use Rattle.flow_residual.specs.Path.{Move, Leads, IsOpen, IsTight}
use Rattle.flow_residual.specs.Rooms.{ReachedBy, HoldsPath}
use Rattle.flow_residual.specs.Edges.{potential_at}
use Rattle.flow_search.specs.Following.{HasTightMove, IsEnteredFrom}
use Rattle.flow_search.proofs.Labelled.{apart}
use Rattle.flow_search.proofs.Ways.{tight_from_edge, open_from_edge, joins_from_edge}

-- only the arcs matter
same_arcs : (room new : Room) → new.by.items ≡ room.by.items → (ms : List Move) (ns : List ℕ) → ReachedBy room ms ns → ReachedBy new ms ns
same_arcs room new e [] [] h = tt
same_arcs room new e [] (n ∷ ns) h = tt
same_arcs room new e (m ∷ ms) [] h = tt
same_arcs room new e (m ∷ ms) (n ∷ ns) h = (ap (λ z. slice_get z n) e ∙ h.0, same_arcs room new e ms ns h.1)

module _ {N A C : Type 0} (value : C → ℤ → ℤ) (step : ℤ) (s : Flow N A C) where
  pub entered_from : (by : List (Option ArcId)) (a n : ℕ) (o : Option NodeId) → slice_get by n ≡ Some (Some (record { 0 = a })) →
      IfSome o (λ u. HasTightMove value step s a u.0 n) → IfSome o (λ u. IsEnteredFrom value step s by u.0 n)
  entered_from by a n None e h = h
  entered_from by a n (Some u) e h = record { arc = a; by_is = e; move = h }

  -- a way of tight moves leads from a node to the last one. The nodes on it are marked, and the first one need not be
  pub record IsFollowed (room : Room) (marks : List Bool) (n last : ℕ) : Type 0 where
    pub moves : List Move
    pub by_way_of : List ℕ
    pub leads : Leads s moves by_way_of n last
    pub once : AllPairs ◌≢◌ by_way_of
    pub moves_open : All (IsOpen s step) moves
    pub tight : All (IsTight s value step) moves
    pub held : ReachedBy room moves by_way_of
    pub marked : All (λ k. in_set marks k ≡ true) by_way_of

  pub followed_none : (room : Room) (marks : List Bool) (n : ℕ) → IsFollowed room marks n n
  followed_none room marks n = record {
    moves = [];
    by_way_of = [];
    leads = refl;
    once = λ i j d l h. absurd (omega arith);
    moves_open = All-nil (IsOpen s step);
    tight = All-nil (IsTight s value step);
    held = tt;
    marked = All-nil (λ k. in_set marks k ≡ true);
  }

  -- a node that is not marked is none of those on the way
  apart_all : (marks : List Bool) (n : ℕ) (ns : List ℕ) → in_set marks n ≡ false → All (λ k. in_set marks k ≡ true) ns → All (λ k. n ≢ k) ns
  apart_all marks n ns f h = λ i d l e. apart marks (get_or ns i d) n (h i d l) f (sym e)

  still_marked : (marks : List Bool) (n : ℕ) (ns : List ℕ) → in_set marks n ≡ false → All (λ k. in_set marks k ≡ true) ns → All (λ k. in_set (set marks n true) k ≡ true) ns
  still_marked marks n ns f h = λ i d l. get_or-set_other marks n (get_or ns i d) true false (apart marks (get_or ns i d) n (h i d l) f) ∙ h i d l

  pub followed_more : (room : Room) (marks : List Bool) (u n last : ℕ) → IsFollowed room marks n last → in_set marks n ≡ false → n < length marks →
      IsEnteredFrom value step s room.by.items u n → IsFollowed room (set marks n true) u last
  followed_more room marks u n last w f there e =
      let m : Move = record { arc = e.arc; up = e.move.up } in
      let t : (potential_at s n -ℤ potential_at s u) ≡ e.move.price = let k = e.move.tight in omega (arith, ints, k) in
      record {
        moves = m ∷ w.moves;
        by_way_of = n ∷ w.by_way_of;
        leads = (joins_from_edge value step s s.potentials m u n e.move.price e.move.edge, w.leads);
        once = AllPairs-cons ◌≢◌ n w.by_way_of (apart_all marks n w.by_way_of f w.marked) w.once;
        moves_open = All-cons (IsOpen s step) m w.moves (open_from_edge value step s s.potentials m u n e.move.price e.move.edge) w.moves_open;
        tight = All-cons (IsTight s value step) m w.moves (tight_from_edge value step s s.potentials m u n e.move.price e.move.edge t) w.tight;
        held = (e.by_is, w.held);
        marked = All-cons (λ k. in_set (set marks n true) k ≡ true) n w.by_way_of (get_or-set_same marks n true false there) (still_marked marks n w.by_way_of f w.marked);
      }

  pub followed_path : (room new : Room) (marks : List Bool) (n : ℕ) → IsFollowed room marks n new.last.0 → in_set marks n ≡ false → n ≡ new.source.0 → new.by.items ≡ room.by.items →
      (ms : List Move) × HoldsPath s step new ms × All (IsTight s value step) ms
  followed_path room new marks n w f e same =
      let w' = subst (λ z. IsFollowed room marks z new.last.0) e w in
      let f' = subst (λ z. in_set marks z ≡ false) e f in (
        w'.moves,
        record {
          path = record {
            by_way_of = w'.by_way_of;
            leads = w'.leads;
            once = AllPairs-cons ◌≢◌ new.source.0 w'.by_way_of (apart_all marks new.source.0 w'.by_way_of f' w'.marked) w'.once;
            moves_open = w'.moves_open;
          };
          held = same_arcs room new same w'.moves w'.by_way_of w'.held;
        },
        w'.tight,
      )
