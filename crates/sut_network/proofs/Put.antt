-- A table into which the flows of a network are put, each times a number.
use Rattle.std.proofs.Common.{◌≡◌, ℕ, ◌≤◌, List, length, Some, ℤ, pos, negsuc, ◌*ℤ◌, sym, ◌∙◌, ap, subst, arith}
use mir.Syntax.{w64}
use mir.Val.{SFits}
use Rattle.std.specs.Prelude.{slice_get, option_map}
use Rattle.std.specs.List.{AllZip}
use Rattle.std.proofs.lemmas.Int.{ints}
use Rattle.std.proofs.lemmas.List.{length-map}
use Rattle.std.proofs.lemmas.Option.{slice_get-map}
use Rattle.sut_measures.specs.declared.accounts.Account.{Account}
use Rattle.sut_measures.specs.declared.measures.Measure.{Measure}
use Rattle.sut_tables.specs.ProblemFacts.{ProblemFacts}
use Rattle.sut_tables.specs.Problems.{live_measures, live_accounts}
use Rattle.sut_tables.specs.Rows.{InRange}
use Rattle.sut_tables.specs.TableFacts.{TableFacts}
use Rattle.flow_graph.specs.Network.{Network}
use Rattle.sut_circuit.specs.Circuit.{table_from}
use Rattle.sut_circuit.specs.TableFlows.{FitsIn}
use Rattle.sut_circuit.proofs.Flowed.{all-put, written_upto}
use Rattle.sut_circuit.proofs.Places.{zip-length}
use Rattle.sut_circuit.proofs.Zips.{zip-at}
use Rattle.sut_network.specs.Networks.{HasEndsOf, IsNetworkOf, times}

-- the name of an arc is the live measure at its place
pub measure-at : (p : ProblemFacts) (g h : Network Account Measure) → IsNetworkOf p g → h ≡ g → (k : ℕ) (m : Measure) → slice_get h.names k ≡ Some m → slice_get (live_measures p) k ≡ Some m
measure-at p g h network same k m e = subst (λ ms. slice_get ms k ≡ Some m) (ap (λ (n : Network Account Measure). n.names) same ∙ network.measures) e

-- a number in the range of tables is one of 64 bits
pub in_range-fits : (z : ℤ) → InRange z → SFits w64 z
in_range-fits (pos n) r = record { sfits = omega (arith, ints, r.high) }
in_range-fits (negsuc n) r = record { sfits = omega (arith, ints, r.low) }

-- the number of a place, times the number
pub times-at : (by : ℤ) (xs : List ℤ) (k : ℕ) (x y : ℤ) → slice_get xs k ≡ Some y → x ≡ y → slice_get (times by xs) k ≡ Some (by *ℤ x)
times-at by xs k x y e same = slice_get-map (λ z. by *ℤ z) xs k ∙ ap (option_map (λ z. by *ℤ z)) e ∙ ap (λ z. Some (by *ℤ z)) (sym same)

-- the number of each place fits into a table
pub flow-fits : (by : ℤ) (ms : List Measure) (xs : List ℤ) → AllZip (λ m x. FitsIn m (by *ℤ x)) ms xs → (k : ℕ) (m : Measure) (x : ℤ) → slice_get ms k ≡ Some m → slice_get xs k ≡ Some x → FitsIn m (by *ℤ x)
flow-fits by ms xs fits k m x e f = zip-at (λ m x. FitsIn m (by *ℤ x)) ms xs k m x fits e f

-- at last the table is that of all the flows
pub network-put : (p : ProblemFacts) (g : Network Account Measure) → IsNetworkOf p g → (t u : TableFacts) (by y : ℤ) (xs : List ℤ) (k : ℕ) → length xs ≡ length g.arcs → length g.arcs ≤ k → by ≡ y
    → u ≡ written_upto p t (times by xs) k → u ≡ table_from p (times y xs)
network-put p g network t u by y xs k counted done equal put =
    let arcs = zip-length (HasEndsOf p (live_accounts p)) (live_measures p) g.arcs network.ends in
    let same = length-map xs (λ z. by *ℤ z) in
    put
    ∙ all-put p t (times by xs) k (omega (arith, arcs, done)) (omega (arith, same, counted, done)) (omega (arith, same, counted, arcs))
    ∙ ap (λ z. table_from p (times z xs)) equal
