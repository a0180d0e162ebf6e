-- Writes of flows alone, or of potentials alone, one after another.
use Rattle.std.proofs.Common.{◌≡◌, ℕ, List, ℤ, subst, ap, sym}
use Rattle.std.specs.Prelude.{slice_get, slice_set, IsSomeAnd}
use Rattle.flow_graph.proofs.Lookups.{some_and}
use Rattle.flow_residual.specs.Flows.{Flow, nearest_within}

module _ {N A C : Type 0} where
  pub flows_alone : (s t u : Flow N A C) (a : ℕ) (x : ℤ) → t ≡ record s { flows = t.flows }
      → IsSomeAnd (slice_get t.graph.arcs a) (λ b. u ≡ record t { flows = slice_set t.flows a (nearest_within b.lo b.hi x) })
      → u ≡ record s { flows = u.flows }
  flows_alone s t u a x e f =
      let p = some_and (slice_get t.graph.arcs a) (λ b. u ≡ record t { flows = slice_set t.flows a (nearest_within b.lo b.hi x) }) f in
      let fs : List ℤ = slice_set t.flows a (nearest_within p.0.lo p.0.hi x) in
      let h : u ≡ record s { flows = fs } = subst (λ (z : Flow N A C). u ≡ record z { flows = fs }) e p.2 in
      subst (λ (xs : List ℤ). u ≡ record s { flows = xs }) (sym (ap (λ (z : Flow N A C). z.flows) h)) h

  pub potentials_alone : (s t u : Flow N A C) (ps : List ℤ) → t ≡ record s { potentials = t.potentials } → u ≡ record t { potentials = ps } → u ≡ record s { potentials = u.potentials }
  potentials_alone s t u ps e f =
      let h : u ≡ record s { potentials = ps } = subst (λ (z : Flow N A C). u ≡ record z { potentials = ps }) e f in
      subst (λ (xs : List ℤ). u ≡ record s { potentials = xs }) (sym (ap (λ (z : Flow N A C). z.potentials) h)) h

  pub both : (s t u : Flow N A C) → t ≡ record s { potentials = t.potentials } → u ≡ record t { flows = u.flows } → u ≡ record s { flows = u.flows; potentials = u.potentials }
  both s t u e f =
      let h : u ≡ record s { flows = u.flows; potentials = t.potentials } = subst (λ (z : Flow N A C). u ≡ record z { flows = u.flows }) e f in
      subst (λ (xs : List ℤ). u ≡ record s { flows = u.flows; potentials = xs }) (sym (ap (λ (z : Flow N A C). z.potentials) h)) h
