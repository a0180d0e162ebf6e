-- A circuit that is being built, and which costs its arcs may have.
use Rattle.std.specs.Prelude.{◌≡◌, ℕ, ℤ, take}
use Rattle.std.specs.List.{AllZip}
use Rattle.sut_measures.specs.declared.measures.Measure.{Measure}
use Rattle.sut_measures.specs.declared.accounts.Account.{Account}
use Rattle.sut_tables.specs.ProblemFacts.{ProblemFacts}
use Rattle.sut_tables.specs.Problems.{row_at, live_measures, live_accounts}
use Rattle.flow_cost.specs.Cost.{IsWithin}
use Rattle.flow_graph.specs.Network.{Network}
use Rattle.sut_circuit.specs.Circuit.{low_of, high_of, IsArcOf}

-- all nodes of a problem's circuit, and the arcs of the first k live measures
pub record IsBegun (p : ProblemFacts) (k : ℕ) (g : Network Account Measure) : Type 0 where
  pub accounts : g.nodes ≡ live_accounts p
  pub measures : g.names ≡ take k (live_measures p)
  pub arcs : AllZip (IsArcOf p (live_accounts p)) (take k (live_measures p)) g.arcs

-- the span of a measure's cost holds the bounds of its arc
abbrev pub HoldsBounds : {C : Type 0} → (C → ℤ) → ProblemFacts → Measure → C → Type 0
HoldsBounds span p m c = IsWithin (span c) (low_of (row_at p m)) × IsWithin (span c) (high_of (row_at p m))
