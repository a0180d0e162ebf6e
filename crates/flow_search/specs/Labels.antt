-- What a search has found so far: which nodes are settled, how far each node is, and by which arc it was reached.
use Rattle.std.specs.Prelude.{◌≡◌, ◌≢◌, ℕ, ◌*◌, ◌^◌, ◌<◌, Bool, true, false, List, [], ◌∷◌, ℤ, pos, negsuc, ◌+ℤ◌, ◌-ℤ◌, ◌≤ℤ◌, Option, Some, length, count_by, slice_get, slice_index_or}
use Rattle.flow_cost.specs.Cost.{IsWithin}
use Rattle.flow_graph.specs.declared.arcs.ArcId.{ArcId}
use Rattle.flow_graph.specs.Contradiction.{in_set}
use Rattle.flow_residual.specs.declared.rooms.Room.{Room}
use Rattle.flow_residual.specs.Flows.{Flow}
use Rattle.flow_residual.specs.Path.{Move, IsSink}
use Rattle.flow_residual.specs.Edges.{slope_limit, potential_at, length_of, IsEdge}

-- a node that was not reached has a distance below 0
pub record Labels : Type 0 where
  pub source : ℕ
  pub set : List Bool
  pub dist : List ℤ
  pub by : List (Option ArcId)

abbrev pub labels_of : Room → Labels
labels_of room = record { source = room.source.0; set = room.set.items; dist = room.dist.items; by = room.by.items }

-- the room keeps all that a frontier needs: with a scan, one entry for each node
pub record IsFrontier (nodes : ℕ) (l : Labels) : Type 0 where
  pub set : length l.set ≡ nodes
  pub dist : length l.dist ≡ nodes
  pub by : length l.by ≡ nodes
  pub source : l.source < nodes

abbrev pub distance : Labels → ℕ → ℤ
distance l node = slice_index_or l.dist node (negsuc 0)

-- the node was reached
pub record IsReached (l : Labels) (node : ℕ) : Type 0 where
  pub nonneg : pos 0 ≤ℤ distance l node

-- the node is settled: no shorter way will be found
abbrev pub IsDone : Labels → ℕ → Type 0
IsDone l node = in_set l.set node ≡ true

-- the bound on what ways cost grows with each settled node
abbrev pub limit_of : Labels → ℤ
limit_of l = pos (count_by (λ b. b) l.set * (4 * 10 ^ 16))

-- one move of a way, and the node that it enters
pub record Hop : Type 0 where
  pub move : Move
  pub to : ℕ

-- where a way ends. Its last hop comes first
abbrev pub end_of : ℕ → List Hop → ℕ
end_of source [] = source
end_of source (h ∷ hs) = h.to

-- the way does not meet the node
abbrev pub Avoids : ℕ → ℕ → List Hop → Type 0
Avoids node source [] = source ≢ node
Avoids node source (h ∷ hs) = (h.to ≢ node) × Avoids node source hs

module _ {N A C : Type 0} (value : C → ℤ → ℤ) (step : ℤ) (s : Flow N A C) where
  -- a settled node, and an edge from it that gave the next node its distance
  pub record IsHop (l : Labels) (from : ℕ) (h : Hop) : Type 0 where
    pub price : ℤ
    pub edge : IsEdge value step s h.move from h.to price
    pub done : IsDone l from
    pub by_is : slice_get l.by h.to ≡ Some (Some (record { 0 = h.move.arc }))
    pub distance_is : distance l h.to ≡ distance l from +ℤ length_of s from h.to price

  -- the hops follow one another from the source and meet no node twice
  abbrev pub IsTrail : Labels → List Hop → Type 0
  IsTrail l [] = Unit {0}
  IsTrail l (h ∷ hs) = IsHop l (end_of l.source hs) h × Avoids h.to l.source hs × IsTrail l hs

  pub record HasTrail (l : Labels) (node : ℕ) : Type 0 where
    pub hops : List Hop
    pub ends : end_of l.source hops ≡ node
    pub trail : IsTrail l hops

  -- what the way to a node costs, at full prices
  abbrev pub cost_to : Labels → ℕ → ℤ
  cost_to l node = (distance l node +ℤ potential_at s node) -ℤ potential_at s l.source

  -- settled nodes are no further than the horizon, other reached nodes are no nearer
  pub record IsExplored (horizon limit : ℤ) (l : Labels) : Type 0 where
    pub frontier : IsFrontier (length s.graph.nodes) l
    pub source_at : distance l l.source ≡ pos 0
    pub trails : (v : ℕ) → IsReached l v → HasTrail l v
    pub near : (v : ℕ) → IsDone l v → IsReached l v × (distance l v ≤ℤ horizon)
    pub far : (v : ℕ) → IsReached l v → in_set l.set v ≡ false → horizon ≤ℤ distance l v
    pub small : (v : ℕ) → IsReached l v → IsWithin limit (cost_to l v)

  -- the node that the edge enters is no further than the edge makes it
  pub record IsRelaxed (l : Labels) (u v : ℕ) (price : ℤ) : Type 0 where
    pub reached : IsReached l v
    pub short : distance l v ≤ℤ (distance l u +ℤ length_of s u v price)

  -- each edge from the node along the arc, in one direction
  abbrev pub RelaxesMove : Labels → ℕ → Move → Type 0
  RelaxesMove l u m = (v : ℕ) (price : ℤ) → IsEdge value step s m u v price → IsRelaxed l u v price

  -- each edge from the node
  abbrev pub RelaxesAll : Labels → ℕ → Type 0
  RelaxesAll l u = (m : Move) → RelaxesMove l u m

  -- no settled node lacks the step
  abbrev pub HasNoSink : Labels → Type 0
  HasNoSink l = (v : ℕ) → IsDone l v → IsSink s step v → ⊥

-- settled nodes keep their distance, and no reached node gets further
pub record IsLowered (old new : Labels) : Type 0 where
  pub source : new.source ≡ old.source
  pub set : new.set ≡ old.set
  pub done : (v : ℕ) → IsDone old v → distance new v ≡ distance old v
  pub reached : (v : ℕ) → IsReached old v → IsReached new v × (distance new v ≤ℤ distance old v)

-- a node is being relaxed: it is settled, none is further, and what the way to it costs leaves room for one more price
pub record IsRelaxing {N A C : Type 0} (value : C → ℤ → ℤ) (step : ℤ) (s : Flow N A C) (l : Labels) (u : ℕ) : Type 0 where
  pub explored : IsExplored value step s (distance l u) (limit_of l) l
  pub done : IsDone l u
  pub small : IsWithin (limit_of l -ℤ slope_limit) (cost_to value step s l u)

-- between two turns: each settled node has been relaxed, and none is a sink
pub record IsSearched {N A C : Type 0} (value : C → ℤ → ℤ) (step : ℤ) (s : Flow N A C) (l : Labels) : Type 0 where
  pub horizon : ℤ
  pub explored : IsExplored value step s horizon (limit_of l) l
  pub relaxed : (u : ℕ) → IsDone l u → RelaxesAll value step s l u
  pub no_sink : HasNoSink value step s l
