-- What holds between the tables of a problem and the circulations of its circuit.
use Rattle.std.specs.Prelude.{◌≡◌, ◌↔◌, ◌*◌, ◌^◌, ℕ, ℤ, pos, List, map, All, IsTrue, Bool, Some, None, length, slice_get}
use Rattle.sut_measures.specs.declared.measures.Measure.{Measure}
use Rattle.sut_measures.specs.declared.accounts.Account.{Account}
use Rattle.sut_tables.specs.ProblemFacts.{ProblemFacts}
use Rattle.sut_tables.specs.TableFacts.{TableFacts}
use Rattle.sut_tables.specs.Problems.{IsProblem, row_at, live_accounts}
use Rattle.sut_tables.specs.Limits.{IsWithinLimits}
use Rattle.sut_tables.specs.Costs.{IsAdmissible, IsLeast, IsImpossible, cost}
use Rattle.sut_cert.specs.Certificates.{ShowsLeast as ShowsTable, Contradicts as ContradictsProblem, IsPotentials, IsAccountSet, has_account, potential_limit}
use Rattle.flow_cost.specs.Cost.{IsWithin}
use Rattle.flow_graph.specs.declared.arcs.Arc.{Arc}
use Rattle.flow_graph.specs.Network.{Network}
use Rattle.flow_graph.specs.Circulation.{IsCirculation, total_cost}
use Rattle.flow_graph.specs.Condition.{ShowsLeast, IsLeastCirculation, ArePotentials}
use Rattle.flow_graph.specs.Contradiction.{Contradicts, in_set}
use Rattle.sut_circuit.specs.Circuit.{IsCircuitOf, flows_of, table_from, marked, by_account}

module _ {C : Type 0} (value : C → ℤ → ℤ) where
  -- a problem within the limits, and its circuit
  pub record IsBuilt (p : ProblemFacts) (g : Network Account Measure) (costs : List C) : Type 0 where
    pub problem : IsProblem p
    pub limits : IsWithinLimits p
    pub circuit : IsCircuitOf value p g costs

  -- each circulation gives an admissible table of equal cost, in which each live measure's value is its arc's flow
  abbrev pub CirculationsAreTables : Type 0
  CirculationsAreTables =
      (p : ProblemFacts) (g : Network Account Measure) (costs : List C) → IsBuilt p g costs
      → (xs : List ℤ) → IsCirculation (length g.nodes) g.arcs xs
      → IsAdmissible p (table_from p xs) × (flows_of p (table_from p xs) ≡ xs) × (pos (cost p (table_from p xs)) ≡ total_cost value costs xs)

  -- each admissible table gives a circulation of equal cost, which gives the table back
  abbrev pub TablesAreCirculations : Type 0
  TablesAreCirculations =
      (p : ProblemFacts) (g : Network Account Measure) (costs : List C) → IsBuilt p g costs
      → (t : TableFacts) → IsAdmissible p t
      → IsCirculation (length g.nodes) g.arcs (flows_of p t) × (total_cost value costs (flows_of p t) ≡ pos (cost p t)) × (table_from p (flows_of p t) ≡ t)

  -- a circulation is least exactly where its table is, and there is none exactly where the problem is impossible
  abbrev pub LeastTogether : Type 0
  LeastTogether =
      (p : ProblemFacts) (g : Network Account Measure) (costs : List C) → IsBuilt p g costs
      → ((xs : List ℤ) → IsLeastCirculation value (length g.nodes) g.arcs costs xs → IsLeast p (table_from p xs))
      × ((t : TableFacts) → IsLeast p t → IsLeastCirculation value (length g.nodes) g.arcs costs (flows_of p t))
      × (((xs : List ℤ) → IsCirculation (length g.nodes) g.arcs xs → ⊥) ↔ IsImpossible p)

  -- potentials that show a circulation least, each at its account, show its table; a set of nodes that contradicts, as a
  -- set of accounts, contradicts the problem
  abbrev pub CertificatesTogether : Type 0
  CertificatesTogether =
      (p : ProblemFacts) (g : Network Account Measure) (costs : List C) → IsBuilt p g costs
      → ((xs potentials : List ℤ) → length potentials ≡ length g.nodes → ShowsLeast value (length g.nodes) g.arcs costs xs potentials
      → ShowsTable p (table_from p xs) (by_account (live_accounts p) potentials))
      × ((marks : List Bool) → Contradicts g.arcs marks → ContradictsProblem p (marked (live_accounts p) marks))

  -- what a balancer may answer: the least table of a circulation that potentials show, with the potentials of the live
  -- accounts; and the live accounts of a set of nodes that contradicts, for an impossible problem
  abbrev pub AnswersAreRight : Type 0
  AnswersAreRight =
      (p : ProblemFacts) (g : Network Account Measure) (costs : List C) → IsBuilt p g costs
      → ((xs potentials : List ℤ) → ArePotentials potential_limit (length g.nodes) potentials → ShowsLeast value (length g.nodes) g.arcs costs xs potentials
      → IsLeast p (table_from p xs)
      × ShowsTable p (table_from p xs) (by_account (live_accounts p) potentials)
      × IsPotentials (by_account (live_accounts p) potentials)
      × (map (λ (a : Account × ℤ). a.0) (by_account (live_accounts p) potentials) ≡ live_accounts p))
      × ((marks : List Bool) → Contradicts g.arcs marks
      → IsImpossible p
      × ContradictsProblem p (marked (live_accounts p) marks)
      × IsAccountSet (marked (live_accounts p) marks)
      × All (λ a. IsTrue (has_account (live_accounts p) a)) (marked (live_accounts p) marks))

  -- the arc of a measure without a row never binds: in a circulation its flow is at most 131,072 * 10^12 away from 0, and its
  -- bounds are 2^60 away; and it crosses no set that contradicts
  abbrev pub WideArcs : Type 0
  WideArcs =
      (p : ProblemFacts) (g : Network Account Measure) (costs : List C) → IsBuilt p g costs
      → (a : ℕ) (m : Measure) (arc : Arc) → slice_get g.names a ≡ Some m → slice_get g.arcs a ≡ Some arc → row_at p m ≡ None
      → ((xs : List ℤ) → IsCirculation (length g.nodes) g.arcs xs → (x : ℤ) → slice_get xs a ≡ Some x → IsWithin (pos (131072 * 10 ^ 12)) x)
      × ((marks : List Bool) → Contradicts g.arcs marks → in_set marks arc.tail ≡ in_set marks arc.head)
