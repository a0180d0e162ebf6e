use Rattle.std.proofs.Common.{◌≡◌, ℕ, ◌+◌, ◌*◌, ◌^◌, ◌<◌, ◌≤◌, List, length, get_or, ℤ, pos, neg_ℤ, ◌≤ℤ◌, Some, slice_get, IsSomeAnd, inl, inr, ap, subst, arith}
use Rattle.std.proofs.lemmas.Int.{ints}
use Rattle.std.proofs.lemmas.Bool.{cases_lt}
use Rattle.std.proofs.lemmas.Option.{slice_get-get_or}
use Rattle.flow_cost.specs.Cost.{IsWithin}
use Rattle.flow_graph.specs.declared.arcs.Arc.{Arc}
use Rattle.flow_graph.proofs.Lookups.{some_and, read_once}
use Rattle.test_flow.proofs.spans.assert_spans.Goals as goal

near : (arcs : List Arc) (a k : ℕ) (lo hi : ℤ) (arc : Arc) → IsSomeAnd (slice_get arcs a) (λ b. (lo ≡ b.lo) × (hi ≡ b.hi)) → k ≡ a → slice_get arcs k ≡ Some arc →
    neg_ℤ (pos (10 ^ 12)) ≤ℤ lo → lo ≤ℤ hi → hi ≤ℤ pos (10 ^ 12) → IsWithin (pos (10 ^ 12)) arc.lo × IsWithin (pos (10 ^ 12)) arc.hi
near arcs a k lo hi arc h e there l m u =
    let p = some_and (slice_get arcs a) (λ b. (lo ≡ b.lo) × (hi ≡ b.hi)) h in
    let same : p.0 ≡ arc = read_once arcs a p.0 arc p.1 (subst (λ n. slice_get arcs n ≡ Some arc) e there) in
    let within : IsWithin (pos (10 ^ 12)) lo × IsWithin (pos (10 ^ 12)) hi = (record { low = l; high = omega (arith, ints) }, record { low = omega (arith, ints); high = u }) in
    subst (λ b. IsWithin (pos (10 ^ 12)) b.lo × IsWithin (pos (10 ^ 12)) b.hi) same
    (subst (λ z. IsWithin (pos (10 ^ 12)) z × IsWithin (pos (10 ^ 12)) p.0.hi) p.2.0 (subst (λ z. IsWithin (pos (10 ^ 12)) lo × IsWithin (pos (10 ^ 12)) z) p.2.1 within))

pub loop-a-preserved : goal.loop-a-preserved
loop-a-preserved g c = λ k arc l h. elim (cases_lt k c.loop-a.a) [
  | inl m ↦ c.loop-a.invariant k arc m h
  | inr m ↦ near c.args.graph.now.arcs c.loop-a.a k c.bounds-lo.result.0 c.bounds-lo.result.1 arc c.bounds-lo.ensures.value (omega arith) h (omega (arith, ints)) c.bounds-lo.ensures.bounds.ordered (omega (arith, ints))
]

pub returns : goal.returns
returns g c = λ k d l. c.loop-a.invariant k (get_or c.args.graph.now.arcs k d) (omega (arith, c.arc_count-a-end.ensures.count)) (slice_get-get_or c.args.graph.now.arcs k d l)
