-- What `State::new` requires: one cost for each arc, and bounds within the span of its cost.
use Rattle.std.proofs.Common.{◌≡◌, ◌^◌, ℤ, ◌∙◌, pos, ℕ, List, Some, slice_get, rules, inl, inr, subst}
use Rattle.std.specs.Prelude.{All}
use Rattle.std.proofs.lemmas.Option.{slice_get_cases}
use Rattle.flow_cost.specs.Cost.{IsWithin}
use Rattle.flow_cost.specs.declared.costs.Either.{Either}
use Rattle.flow_cost.specs.declared.costs.Either.TheVariants.{One, Other}
use Rattle.flow_cost.specs.declared.losses.Absolute.{Absolute}
use Rattle.flow_cost.specs.declared.losses.Band.{Band}
use Rattle.flow_cost.specs.declared.losses.Square.{Square}
use Rattle.flow_cost.specs.contracts.losses.AbsoluteCost.TheImpl as absolute
use Rattle.flow_cost.specs.contracts.losses.BandCost.TheImpl as band
use Rattle.flow_cost.specs.contracts.losses.SquareCost.TheImpl as square
use Rattle.flow_graph.specs.declared.arcs.Arc.{Arc}
use Rattle.flow_graph.proofs.Lookups.{read_once}
use Rattle.test_flow.proofs.solves.solved.Goals as goal

-- what holds of each element holds of the one that is read
read_from_all : {X : Type 0} (P : X → Type 0) (xs : List X) (k : ℕ) (x : X) → All P xs → slice_get xs k ≡ Some x → P x
read_from_all P xs k x all there = elim (slice_get_cases xs k).1 [
  | inl h ↦ let same : h.0 ≡ x = read_once xs k h.0 x h.2 there in subst P (h.3 ∙ same) (all k h.0 h.1)
  | inr h ↦ absurd cc
]

-- how far from 0 a number may be
abbrev span_at : Either Square (Either Absolute Band) → ℤ
span_at (One c) = (square.ghosts).span_of c
span_at (Other (One c)) = (absolute.ghosts).span_of c
span_at (Other (Other c)) = (band.ghosts).span_of c

fits : (c : Either Square (Either Absolute Band)) (arc : Arc) → IsWithin (pos (10 ^ 12)) arc.lo × IsWithin (pos (10 ^ 12)) arc.hi → IsWithin (span_at c) arc.lo × IsWithin (span_at c) arc.hi
fits (One c) arc h = h
fits (Other (One c)) arc h = h
fits (Other (Other c)) arc h = h

pub new-requires : goal.new-requires
new-requires g c = record {
  counted = search rules;
  within = λ a arc cost there cost_there.
      fits cost arc (read_from_all (λ (b : Arc). IsWithin (pos (10 ^ 12)) b.lo × IsWithin (pos (10 ^ 12)) b.hi) c.graph_of-graph.result.arcs a arc c.assert_spans.ensures there);
}
