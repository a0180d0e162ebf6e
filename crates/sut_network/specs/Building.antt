-- A network while it is built.
use Rattle.std.specs.Prelude.{◌≡◌, ℕ, take}
use Rattle.std.specs.List.{AllZip}
use Rattle.sut_measures.specs.declared.measures.Measure.{Measure}
use Rattle.sut_measures.specs.declared.accounts.Account.{Account}
use Rattle.sut_tables.specs.ProblemFacts.{ProblemFacts}
use Rattle.sut_tables.specs.Problems.{live_measures, live_accounts}
use Rattle.flow_graph.specs.Network.{Network}
use Rattle.sut_network.specs.Networks.{HasEndsOf}

-- all nodes of a problem's network, and the arcs of the first k live measures
pub record IsBegun (p : ProblemFacts) (k : ℕ) (g : Network Account Measure) : Type 0 where
  pub accounts : g.nodes ≡ live_accounts p
  pub measures : g.names ≡ take k (live_measures p)
  pub ends : AllZip (HasEndsOf p (live_accounts p)) (take k (live_measures p)) g.arcs
