-- What was found on the circuit of a problem is right for the problem.
use Rattle.std.proofs.Common.{◌≡◌, ◌^◌, ℕ, ℤ, pos, List, Bool, length, Option, Some, None, refl, sym, subst}
use Rattle.std.specs.Prelude.{IfNone, IfSome, IsSome}
use Rattle.sut_measures.specs.declared.accounts.Account.{Account}
use Rattle.sut_measures.specs.declared.measures.Measure.{Measure}
use Rattle.sut_tables.specs.Costs.{IsImpossible}
use Rattle.sut_tables.specs.ProblemFacts.{ProblemFacts}
use Rattle.sut_tables.specs.ProblemRules.{IsKept}
use Rattle.sut_tables.specs.Problems.{live_accounts}
use Rattle.sut_tables.specs.TableFacts.{TableFacts}
use Rattle.sut_cert.specs.Certificates.{IsAccountSet, IsPotentials}
use Rattle.sut_cert.specs.Right.{IsRightCut, IsRightTable}
use Rattle.flow_graph.specs.Condition.{ArePotentials, ShowsLeast}
use Rattle.flow_graph.specs.Contradiction.{Contradicts}
use Rattle.flow_graph.specs.Network.{Network}
use Rattle.flow_residual.specs.Flows.{Flow}
use Rattle.sut_circuit.specs.Circuit.{IsCircuitOf, by_account, marked, table_from}
use Rattle.sut_circuit.specs.CircuitLaws.{IsBuilt}
use Rattle.sut_circuit.specs.RowCosts.{ArcCost, cost_at}
use Rattle.sut_circuit.proofs.RightAnswers.{answers-right}
use Rattle.sut_circuit.proofs.Written.{by_account-potentials, marked-set}

-- other flows and potentials on the same graph
pub circuit-stays : (p : ProblemFacts) (s t : Flow Account Measure ArcCost) → t ≡ record s { flows = t.flows; potentials = t.potentials }
    → IsCircuitOf cost_at p s.graph s.costs → IsCircuitOf cost_at p t.graph t.costs
circuit-stays p s t e h = subst (λ (z : Flow Account Measure ArcCost). IsCircuitOf cost_at p z.graph z.costs) (sym e) h

-- the value that is there where there isn't none
pub some-made : {X : Type 0} (o : Option X) (P : Type 0) → IfNone o (¬ P) → P → IsSome o
some-made None P h q = absurd (h q)
some-made (Some x) P h q = refl

pub made-is : {X : Type 0} (o : Option X) (P : X → Type 0) (x : X) → IfSome o P → o ≡ Some x → P x
made-is {X = X} o P x h e = let Q : Option X → Type 0 = λ z. IfSome z P in subst Q e h

module _ (p : ProblemFacts) where
  pub potentials-are : (ys : List ℤ) (nodes : ℕ) → ArePotentials (pos (10 ^ 24)) nodes ys → (ps : List (Account × ℤ)) → ps ≡ by_account (live_accounts p) ys → IsPotentials ps
  potentials-are ys nodes are ps e = subst IsPotentials (sym e) (by_account-potentials p ys are.within)

  pub set-is : (marks : List Bool) (s : List Account) → s ≡ marked (live_accounts p) marks → IsAccountSet s
  set-is marks s e = subst IsAccountSet (sym e) (marked-set p marks)

  module _ (kept : IsKept p) (g : Network Account Measure) (costs : List ArcCost) (circuit : IsCircuitOf cost_at p g costs) where
    built : IsBuilt cost_at p g costs
    built = record { problem = kept.problem; limits = kept.limits; circuit = circuit }

    pub right-table : (xs ys : List ℤ) → ArePotentials (pos (10 ^ 24)) (length g.nodes) ys → ShowsLeast cost_at (length g.nodes) g.arcs costs xs ys
        → (t : TableFacts) (ps : List (Account × ℤ)) → t ≡ table_from p xs → ps ≡ by_account (live_accounts p) ys → IsRightTable p t ps
    right-table xs ys are shows t ps e f =
        let r = (answers-right cost_at p g costs built).0 xs ys are shows in
        subst (λ u. IsRightTable p u ps) (sym e) (subst (λ q. IsRightTable p (table_from p xs) q) (sym f) (record { least = r.0; shown = r.1; accounts = r.3 }))

    pub right-cut : (marks : List Bool) → Contradicts g.arcs marks → (s : List Account) → s ≡ marked (live_accounts p) marks → IsRightCut p s
    right-cut marks con s e =
        let r = (answers-right cost_at p g costs built).1 marks con in
        subst (IsRightCut p) (sym e) (record { live = r.3; contradicts = r.1 })

    pub cut-impossible : (marks : List Bool) → Contradicts g.arcs marks → IsImpossible p
    cut-impossible marks con = ((answers-right cost_at p g costs built).1 marks con).0
