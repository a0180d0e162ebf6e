-- Potentials whose gaps are closed: what slopes can reach stays as it was.
use Rattle.std.specs.Prelude.{◌≡◌, ◌≢◌, ℕ, ◌+◌, ◌<◌, List, ℤ, pos, neg_ℤ, ◌-ℤ◌, ◌≤ℤ◌, ◌<ℤ◌, length, slice_index_or}
use Rattle.flow_cost.specs.Cost.{IsWithin}
use Rattle.flow_graph.specs.declared.arcs.NodeId.{NodeId}
use Rattle.flow_residual.specs.Edges.{slope_limit}

-- a difference that a slope can reach stays, and one beyond every slope stays beyond
pub record KeepsGap (a b a' b' : ℤ) : Type 0 where
  pub near : IsWithin slope_limit (b -ℤ a) → b' -ℤ a' ≡ b -ℤ a
  pub above : slope_limit <ℤ (b -ℤ a) → slope_limit <ℤ (b' -ℤ a')
  pub below : (b -ℤ a) <ℤ neg_ℤ slope_limit → (b' -ℤ a') <ℤ neg_ℤ slope_limit

-- the node at a place of a list
abbrev pub node_at : List NodeId → ℕ → ℕ
node_at nodes place = (slice_index_or nodes place (record { 0 = 0 })).0

-- each node once, by ascending potential
pub record IsOrder (nodes : List NodeId) (potentials : List ℤ) : Type 0 where
  pub counted : length nodes ≡ length potentials
  pub within : (j : ℕ) → j < length nodes → node_at nodes j < length potentials
  pub all : (u : ℕ) → u < length potentials → (j : ℕ) × (j < length nodes) × (node_at nodes j ≡ u)
  pub apart : (j k : ℕ) → j < k → k < length nodes → node_at nodes j ≢ node_at nodes k
  pub ascending : (j : ℕ) → j + 1 < length nodes → slice_index_or potentials (node_at nodes j) (pos 0) ≤ℤ slice_index_or potentials (node_at nodes (j + 1)) (pos 0)
