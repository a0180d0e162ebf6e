-- What a search has shown where it ends.
use Rattle.std.proofs.Common.{◌≡◌, ◌≢◌, ℕ, ◌<◌, ◌≤◌, ◌*◌, ◌^◌, true, false, List, length, get_or, Some, slice_get, ◌↔◌, ap, sym, subst, ◌∙◌, arith, ℤ, pos, negsuc, ◌-ℤ◌, ◌≤ℤ◌, All}
use Rattle.std.proofs.lemmas.List.{get_or_read}
use Rattle.std.proofs.lemmas.Option.{get_or_from_slice_get, slice_get-get_or}
use mir.Syntax.{w128}
use mir.Val.{to_z, of_z}
use Rattle.flow_cost.specs.Cost.{IsWithin}
use Rattle.flow_graph.specs.Network.{IsArcAmong}
use Rattle.flow_graph.specs.Condition.{ArePotentials}
use Rattle.flow_residual.specs.declared.rooms.Room.{Room}
use Rattle.flow_residual.specs.Flows.{Flow, MeetsAll}
use Rattle.flow_residual.specs.Path.{Move, IsSink, IsTight, Reaches}
use Rattle.flow_residual.specs.Rooms.{HoldsPath}
use Rattle.flow_residual.specs.Edges.{potential_at}
use Rattle.flow_search.specs.Labels.{Labels, distance, IsDone, IsReached, IsSearched, IsRelaxing, labels_of}
use Rattle.flow_search.specs.Frontier.{Takes, TakesNone, IsGain}
use Rattle.flow_search.proofs.Labelled.{taken, others_relaxed}
use Rattle.flow_search.proofs.Offered.{kept_distance}
use Rattle.flow_search.proofs.Ways.{with_potentials, new_condition, held_path, reach_from_done, done_from_reach, small_distance, reached_in}

module _ {N A C : Type 0} (value : C → ℤ → ℤ) (step : ℤ) (s : Flow N A C) where
  -- a path is held, tight under potentials that keep the condition
  pub record IsEnded (room : Room) (new : Flow N A C) : Type 0 where
    pub condition : MeetsAll value step new
    pub path : (ms : List Move) × HoldsPath new step room ms × All (IsTight new value step) ms

  -- the node that was taken last is the path's end
  module _ (l : Labels) (room : Room) (fit : All (IsArcAmong (length s.graph.nodes)) s.graph.arcs) (meets : MeetsAll value step s)
      (x : IsSearched value step s l) (t : Takes l (labels_of room) room.last.0) (there : room.last.0 < length s.graph.nodes) where
    end_relaxing : IsRelaxing value step s (labels_of room) room.last.0
    end_relaxing = taken value step s l (labels_of room) room.last.0 there x t

    pub end_reached : Reaches s step room.source.0 room.last.0
    end_reached =
        let r = end_relaxing in
        reach_from_done value step s room room.last.0 (r.explored.trails room.last.0 (r.explored.near room.last.0 r.done).0) r.done

    pub end_distance : ArePotentials (pos (2 * 10 ^ 22)) (length s.graph.nodes) s.potentials → length s.graph.nodes ≤ 262_144 →
        (pos 0 ≤ℤ distance (labels_of room) room.last.0) × IsWithin (pos (10 ^ 23)) (distance (labels_of room) room.last.0)
    end_distance small few =
        let r = end_relaxing in
        let n = r.explored.near room.last.0 r.done in
        (n.0.nonneg, small_distance value step s (distance (labels_of room) room.last.0) (labels_of room) room.last.0 r.explored small few there n.0)

    -- its distance, as it is read
    pub end_read : ArePotentials (pos (2 * 10 ^ 22)) (length s.graph.nodes) s.potentials → length s.graph.nodes ≤ 262_144 → (r : ℤ) → r ≡ get_or room.dist.items room.last.0 r →
        to_z w128 (of_z w128 r) ≡ distance (labels_of room) room.last.0
    end_read small few r e =
        let w : room.last.0 < length room.dist.items = subst (λ z. room.last.0 < z) (sym end_relaxing.explored.frontier.dist) there in
        kept_distance r (distance (labels_of room) room.last.0) (get_or_read room.dist.items room.last.0 r w e (negsuc 0)) (end_distance small few).1

    module _ (ps : List ℤ) (gains : (v : ℕ) → v < length s.graph.nodes → IsGain (distance (labels_of room) v) (distance (labels_of room) room.last.0) (get_or ps v (pos 0) -ℤ potential_at s v)) where
      ended_with : IsEnded room (with_potentials s ps)
      ended_with =
          let r = end_relaxing in
          let o = λ (v : ℕ) (d : IsDone (labels_of room) v) (q : v ≢ room.last.0). others_relaxed value step s l (labels_of room) room.last.0 v x t d q in
          let f = held_path value step s room room.last.0 ps fit meets r o gains in
          record {
            condition = new_condition value step s (labels_of room) room.last.0 ps fit meets r o gains;
            path = (f.moves, record { path = f.path; held = f.held }, f.all);
          }

    pub ended : (new : Flow N A C) → new ≡ record s { potentials = new.potentials } →
        ((v : ℕ) → v < length s.graph.nodes → IsGain (distance (labels_of room) v) (distance (labels_of room) room.last.0) (potential_at new v -ℤ potential_at s v)) → IsEnded room new
    ended new e gains = subst (λ z. IsEnded room z) (sym e) (ended_with new.potentials gains)

  -- nothing was left to take
  module _ (l : Labels) (room : Room) (lc : length s.costs ≡ length s.graph.arcs) (lf : length s.flows ≡ length s.graph.arcs)
      (x : IsSearched value step s l) (t : TakesNone l (labels_of room)) where
    closed_search : IsSearched value step s (labels_of room)
    closed_search = subst (λ z. IsSearched value step s z) (sym t.new_is) x

    closed_done : (v : ℕ) → IsReached (labels_of room) v → IsDone (labels_of room) v
    closed_done = subst (λ z. (v : ℕ) → IsReached z v → IsDone z v) (sym t.new_is) t.all_done

    pub no_sink_reached : (v : ℕ) → IsSink s step v → Reaches s step room.source.0 v → ⊥
    no_sink_reached v k r = closed_search.no_sink v (done_from_reach value step s (labels_of room) lc lf closed_search closed_done v r) k

    pub set_is_reached : (v : ℕ) → (slice_get room.set.items v ≡ Some true) ↔ Reaches s step room.source.0 v
    set_is_reached v = (
      λ h.
          let d : IsDone (labels_of room) v = get_or_from_slice_get room.set.items v true false h in
          reach_from_done value step s room v (closed_search.explored.trails v (closed_search.explored.near v d).0) d,
      λ r.
          let d = done_from_reach value step s (labels_of room) lc lf closed_search closed_done v r in
          let there : v < length room.set.items = omega (arith, reached_in (labels_of room) (length s.graph.nodes) v closed_search.explored.frontier (closed_search.explored.near v d).0, closed_search.explored.frontier.set) in
          slice_get-get_or room.set.items v false there ∙ ap Some d,
    )
