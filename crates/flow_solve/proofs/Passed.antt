-- One pass over the nodes at a scale, node by node.
use Rattle.std.proofs.Common.{◌≡◌, ℕ, ◌+◌, ◌<◌, Bool, true, false, ◌||◌, List, length, All, inl, inr, sym, subst, ◌∙◌, arith, ℤ, ◌<ℤ◌}
use Rattle.std.proofs.lemmas.Bool.{cases_lt, or_parts}
use Rattle.flow_graph.specs.Contradiction.{in_set}
use Rattle.flow_graph.specs.Network.{Network, IsArcAmong}
use Rattle.flow_residual.specs.Flows.{Flow, excess_of}
use Rattle.flow_solve.specs.Progress.{IsUnderway, IsClosedOff}
use Rattle.flow_solve.specs.Scales.{IsDrained, IsPassed}
use Rattle.flow_solve.proofs.Shut.{closed_is_shut, source_inside, shut_both, shut_same, shut_none}
use Rattle.flow_solve.proofs.Underway.{same_graph, same_nodes}

module _ {N A C : Type 0} (step : ℤ) where
  -- no node yet
  pub passed_none : (s : Flow N A C) (aside : List Bool) → ((k : ℕ) → in_set aside k ≡ false) → IsPassed step s aside 0
  passed_none s aside none = record { shut = shut_none step s (in_set aside) none; spent = λ k l. absurd (omega (arith, l)) }

  -- a node that was put aside
  pub passed_aside : (s : Flow N A C) (aside : List Bool) (n : ℕ) → IsPassed step s aside n → in_set aside n ≡ true → IsPassed step s aside (n + 1)
  passed_aside s aside n p i = record {
    shut = p.shut;
    spent = λ k l m e. elim (cases_lt k n) [
      | inl q ↦ p.spent k q m e
      | inr q ↦ (let same : n ≡ k = omega (arith, l, q) in let there = subst (λ z. in_set aside z ≡ true) same i in absurd (cc))
    ];
  }

  module _ (value : C → ℤ → ℤ) (s now : Flow N A C) (aside : List Bool) (n t u : ℕ) (p : IsPassed step s aside n) (h : IsUnderway value step s now t u) where
    earlier : (k : ℕ) → k < n → k < length now.graph.nodes → in_set aside k ≡ false → excess_of now k <ℤ step
    earlier k l m e = let same = same_nodes value step s now t u h in let m' : k < length s.graph.nodes = omega (arith, m, same) in h.spent k m' (p.spent k l m' e)

    -- a node whose excess has gone
    pub passed_spent : (after : List Bool) → after ≡ aside → excess_of now n <ℤ step → IsPassed step now after (n + 1)
    passed_spent after kept gone = subst (λ z. IsPassed step now z (n + 1)) (sym kept) (record {
      shut = h.shut (in_set aside) p.shut;
      spent = λ k l m e. elim (cases_lt k n) [
        | inl q ↦ earlier k q m e
        | inr q ↦ (let same : n ≡ k = omega (arith, l, q) in subst (λ z. excess_of now z <ℤ step) same gone)
      ];
    })

    -- a node from which no step can go: what it reaches is put aside
    pub passed_closed : (set kept after : List Bool) → kept ≡ aside → ((k : ℕ) → in_set after k ≡ (in_set kept k || in_set set k)) → All (IsArcAmong (length s.graph.nodes)) s.graph.arcs → IsClosedOff step now n set → IsPassed step now after (n + 1)
    passed_closed set kept after same_marks added fit c =
        let fit' : All (IsArcAmong (length now.graph.nodes)) now.graph.arcs = subst (λ (z : Network N A). All (IsArcAmong (length z.nodes)) z.arcs) (sym (same_graph value step s now t u h)) fit in
        let union : (k : ℕ) → in_set after k ≡ (in_set aside k || in_set set k) = subst (λ z. (k : ℕ) → in_set after k ≡ (in_set z k || in_set set k)) same_marks added in
        record {
          shut = shut_same step now (λ k. in_set aside k || in_set set k) (in_set after) union (shut_both step now (in_set aside) (in_set set) (h.shut (in_set aside) p.shut) (closed_is_shut step now set n fit' c));
          spent = λ k l m e.
              let parts = or_parts (in_set aside k) (in_set set k) (sym (union k) ∙ e) in
              elim (cases_lt k n) [
                | inl q ↦ earlier k q m parts.0
                | inr q ↦ (let same : n ≡ k = omega (arith, l, q) in
                    let inside = subst (λ z. in_set set z ≡ true) same (source_inside step now set n fit' c) in
                    let out = parts.1 in
                    absurd (cc))
              ];
        }

  -- all nodes
  pub passed_all : (s : Flow N A C) (aside : List Bool) (n : ℕ) → length s.graph.nodes ≡ n → IsPassed step s aside n → IsDrained step s
  passed_all s aside n e p = record { set = in_set aside; shut = p.shut; spent = λ k l. p.spent k (omega (arith, l, e)) l }
