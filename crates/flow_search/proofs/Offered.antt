-- What an offer along an edge from the node that is being relaxed gives.
use Rattle.std.proofs.Common.{◌≡◌, ℕ, ◌*◌, ◌^◌, ◌<◌, ◌≤◌, length, get_or, ◌∙◌, arith, ℤ, pos, negsuc, ◌+ℤ◌, ◌≤ℤ◌, ◌⊎◌}
use Rattle.std.proofs.lemmas.Int.{ints, to_z-of_z}
use Rattle.std.proofs.lemmas.List.{get_or_read}
use mir.Syntax.{w128}
use mir.Val.{to_z, of_z, SFits}
use Rattle.flow_cost.specs.Cost.{IsWithin}
use Rattle.flow_graph.specs.Condition.{ArePotentials}
use Rattle.flow_residual.specs.Flows.{Flow, MeetsAll}
use Rattle.flow_residual.specs.Path.{Move}
use Rattle.flow_residual.specs.Edges.{slope_limit, length_of, IsEdge}
use Rattle.flow_search.specs.Labels.{Labels, distance, IsRelaxing, IsLowered, RelaxesMove}
use Rattle.flow_search.specs.Frontier.{Declines, Accepts}
use Rattle.flow_search.proofs.Labelled.{relaxed_move}
use Rattle.flow_search.proofs.Ways.{edge_long, small_distance, reached_in}

kept_price : (x : ℤ) → IsWithin slope_limit x → to_z w128 (of_z w128 x) ≡ x
kept_price x w = omega (arith, ints, w.low, w.high)

pub kept_distance : (x d : ℤ) → x ≡ d → IsWithin (pos (10 ^ 23)) d → to_z w128 (of_z w128 x) ≡ d
kept_distance x d e w = omega (arith, ints, e, w.low, w.high)

sum_nonneg : (a b c : ℤ) → c ≡ a +ℤ b → pos 0 ≤ℤ a → pos 0 ≤ℤ b → pos 0 ≤ℤ c
sum_nonneg a b c e h k = omega (arith, ints, e, h, k)

module _ {N A C : Type 0} (value : C → ℤ → ℤ) (step : ℤ) (s : Flow N A C) (l : Labels) (u : ℕ) where
  -- the distance of the node, as it is read
  pub record IsReadAt (x : ℤ) : Type 0 where
    pub nonneg : pos 0 ≤ℤ distance l u
    pub small : IsWithin (pos (10 ^ 23)) (distance l u)
    pub is : to_z w128 (of_z w128 x) ≡ distance l u

  pub read_at : (x : ℤ) → IsRelaxing value step s l u → ArePotentials (pos (2 * 10 ^ 22)) (length s.graph.nodes) s.potentials →
      length s.graph.nodes ≤ 262_144 → x ≡ get_or l.dist u x → IsReadAt x
  read_at x r h few e =
      let near = (r.explored.near u r.done).0 in
      let there : u < length s.graph.nodes = reached_in l (length s.graph.nodes) u r.explored.frontier near in
      let small = small_distance value step s (distance l u) l u r.explored h few there near in
      let read : x ≡ distance l u = get_or_read l.dist u x (omega (arith, there, r.explored.frontier.dist)) e (negsuc 0) in
      record { nonneg = near.nonneg; small = small; is = kept_distance x (distance l u) read small }

  -- what comes of an offer of the distance
  pub record IsOffer (m : Move) (v : ℕ) (d : ℤ) : Type 0 where
    pub low : pos 0 ≤ℤ d
    pub after : (n : Labels) → Declines l n v d ⊎ Accepts l n v d (record { 0 = m.arc }) →
        IsRelaxing value step s n u × IsLowered l n × RelaxesMove value step s n u m

  pub offered : (m : Move) (v : ℕ) (price x d : ℤ) → IsRelaxing value step s l u → MeetsAll value step s → IsReadAt x → IsEdge value step s m u v price →
      (v < length s.graph.nodes) × IsWithin slope_limit price → SFits w128 d →
      d ≡ to_z w128 (of_z w128 x) +ℤ length_of s u v (to_z w128 (of_z w128 price)) → IsOffer m v (to_z w128 (of_z w128 d))
  offered m v price x d r meets at e small fits d_is =
      let dis : to_z w128 (of_z w128 d) ≡ distance l u +ℤ length_of s u v price =
      to_z-of_z w128 d fits ∙ (rw (at.is, kept_price price small.1) at d_is) in
      let long = edge_long value step s m u v price meets e in
      record {
        low = sum_nonneg (distance l u) (length_of s u v price) (to_z w128 (of_z w128 d)) dis at.nonneg long;
        after = λ n o. relaxed_move value step s l u v m price (to_z w128 (of_z w128 d)) r small.0 e small.1 dis long n o;
      }
