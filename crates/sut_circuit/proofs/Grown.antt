-- The graph of a circuit with one more node, and with one more arc.
use Rattle.std.proofs.Common.{◌≡◌, ℕ, ◌+◌, ◌<◌, ◌≤◌, List, [], ◌∷◌, ◌++◌, length, take, get_or, Some, None, true, false, ℤ, ◌≤ℤ◌, sym, ◌∙◌, ap, subst, arith}
use Rattle.std.specs.Prelude.{slice_get}
use Rattle.std.specs.List.{AllZip, list_any, position}
use Rattle.std.proofs.lemmas.List.{length-take, take_all, take_more}
use Rattle.sut_measures.specs.Keys.{account_key, measure_key}
use Rattle.sut_measures.specs.Ends.{left, entered}
use Rattle.sut_measures.specs.declared.accounts.Account.{Account}
use Rattle.sut_measures.specs.declared.measures.Measure.{Measure}
use Rattle.sut_measures.proofs.KeyLemmas.{account_key-injective}
use Rattle.sut_tables.specs.ProblemFacts.{ProblemFacts}
use Rattle.sut_tables.specs.Problems.{groups, row_at, live_measures, live_accounts}
use Rattle.sut_tables.proofs.Conservation.{live-sorted}
use Rattle.sut_tables.proofs.Converse.{EndsAmong, ends-are-live}
use Rattle.sut_tables.proofs.LiveCounts.{take-more}
use Rattle.flow_cost.specs.Cost.{IsWithin}
use Rattle.flow_graph.specs.declared.arcs.Arc.{Arc}
use Rattle.flow_graph.specs.Condition.{FitSpans}
use Rattle.flow_graph.specs.Network.{Network}
use Rattle.flow_graph.specs.Updates.{with_node, arc_fault, AddsArc}
use Rattle.flow_graph.proofs.Lookups.{read_within}
use Rattle.std.proofs.lemmas.Option.{slice_get_within}
use Rattle.sut_circuit.specs.Building.{IsBegun, HoldsBounds}
use Rattle.sut_circuit.specs.Circuit.{low_of, high_of, IsArcOf, IsCostOf, IsCircuitOf}
use Rattle.sut_circuit.proofs.Fresh.{arc-fits}
use Rattle.sut_circuit.proofs.Names.{same_account, same_measure, account-same, measure-same, none-before, any-among, found-at}
use Rattle.sut_circuit.proofs.Places.{zip-length, All-at}
use Rattle.sut_circuit.proofs.Zips.{zip-push, zip-at}

abbrev pub nodes_alone : List Account → Network Account Measure
nodes_alone accounts = record { nodes = accounts; names = []; arcs = [] }

pub node-more : (accounts : List Account) (k : ℕ) (a : Account) (g h : Network Account Measure) → k < length accounts → get_or accounts k a ≡ a
    → g ≡ nodes_alone (take k accounts) → h ≡ with_node g a → h ≡ nodes_alone (take (k + 1) accounts)
node-more accounts k a g h l is e f =
    f ∙ ap (λ (z : Network Account Measure). with_node z a) e
    ∙ ap nodes_alone (ap (λ z. take k accounts ++ z ∷ []) (sym is) ∙ sym (take_more accounts k a l))

-- there are as many arcs as were added
pub begun-count : (p : ProblemFacts) (k : ℕ) (g : Network Account Measure) → IsBegun p k g → k ≤ length (live_measures p) → length g.arcs ≡ k
begun-count p k g b h =
    omega (arith, zip-length (IsArcOf p (live_accounts p)) (take k (live_measures p)) g.arcs b.arcs, length-take k (live_measures p), h)

module _ (p : ProblemFacts) (g : Network Account Measure) (m : Measure) (from to : Account) (lo hi : ℤ) (begun : IsBegun p (length g.arcs) g)
    (next : slice_get (live_measures p) (length g.arcs) ≡ Some m) (left_is : from ≡ left (groups p) m) (entered_is : to ≡ entered (groups p) m) where
  fresh : list_any (same_measure m) g.names ≡ false
  fresh =
      subst (λ ns. list_any (same_measure m) ns ≡ false) (sym begun.measures)
      (none-before measure_key same_measure measure-same (live_measures p) (live-sorted p) (length g.arcs) m next)

  ends : EndsAmong (groups p) (live_accounts p) m
  ends = All-at (EndsAmong (groups p) (live_accounts p)) (live_measures p) (length g.arcs) m (ends-are-live p) next

  there_from : list_any (same_account from) g.nodes ≡ true
  there_from =
      subst (λ ns. list_any (same_account from) ns ≡ true) (sym begun.accounts)
      (subst (λ a. list_any (same_account a) (live_accounts p) ≡ true) (sym left_is) (any-among account_key same_account account-same (left (groups p) m) (live_accounts p) ends.0))

  there_to : list_any (same_account to) g.nodes ≡ true
  there_to =
      subst (λ ns. list_any (same_account to) ns ≡ true) (sym begun.accounts)
      (subst (λ a. list_any (same_account a) (live_accounts p) ≡ true) (sym entered_is) (any-among account_key same_account account-same (entered (groups p) m) (live_accounts p) ends.1))

  -- the arc of the next live measure is added without a fault
  pub no-fault : lo ≤ℤ hi → length g.arcs < 524_288 → arc_fault same_account same_measure g m from to lo hi ≡ None
  no-fault ordered room = arc-fits same_account g same_measure m from to lo hi fresh there_from there_to ordered room

  at-place : (a b : Account) (k : ℕ) → a ≡ b → position (same_account a) g.nodes ≡ Some k → slice_get (live_accounts p) k ≡ Some b
  at-place a b k same e =
      found-at account_key same_account account-same account_key-injective b (live_accounts p) k
      (subst (λ x. position (same_account x) (live_accounts p) ≡ Some k) same (subst (λ ns. position (same_account a) ns ≡ Some k) begun.accounts e))

  -- and the graph is begun with one more
  pub begun-more : lo ≡ low_of (row_at p m) → hi ≡ high_of (row_at p m) → (h : Network Account Measure) → AddsArc same_account g h m from to lo hi → IsBegun p (length g.arcs + 1) h
  begun-more low high h adds =
      let arc : Arc = record { tail = adds.tail; head = adds.head; lo = lo; hi = hi } in
      let is : IsArcOf p (live_accounts p) m (record { tail = adds.tail; head = adds.head; lo = lo; hi = hi }) = record {
        tail = at-place from (left (groups p) m) adds.tail left_is adds.tail_is;
        head = at-place to (entered (groups p) m) adds.head entered_is adds.head_is;
        low = low;
        high = high;
      } in
      let names : h.names ≡ take (length g.arcs) (live_measures p) ++ m ∷ [] = ap (λ (z : Network Account Measure). z.names) adds.new_is ∙ ap (λ ns. ns ++ m ∷ []) begun.measures in
      let more : take (length g.arcs + 1) (live_measures p) ≡ take (length g.arcs) (live_measures p) ++ m ∷ [] = take-more (live_measures p) (length g.arcs) m next in
      record {
        accounts = ap (λ (z : Network Account Measure). z.nodes) adds.new_is ∙ begun.accounts;
        measures = names ∙ sym more;
        arcs = subst (λ ms. AllZip (IsArcOf p (live_accounts p)) ms h.arcs) (sym more)
            (subst (λ zs. AllZip (IsArcOf p (live_accounts p)) (take (length g.arcs) (live_measures p) ++ m ∷ []) zs) (sym (ap (λ (z : Network Account Measure). z.arcs) adds.new_is))
            (zip-push (IsArcOf p (live_accounts p)) (take (length g.arcs) (live_measures p)) g.arcs m (record { tail = adds.tail; head = adds.head; lo = lo; hi = hi }) begun.arcs is));
      }

-- spans that hold each measure's bounds hold those of its arc
pub spans-fit : {C : Type 0} (span : C → ℤ) (p : ProblemFacts) (nodes : List Account) (ms : List Measure) (arcs : List Arc) (costs : List C)
    → AllZip (IsArcOf p nodes) ms arcs → AllZip (HoldsBounds span p) ms costs → FitSpans span arcs costs
spans-fit span p nodes ms arcs costs are hold = record {
  counted = sym (zip-length (HoldsBounds span p) ms costs hold) ∙ zip-length (IsArcOf p nodes) ms arcs are;
  within = λ a arc c e f.
      let there : a < length ms = omega (arith, slice_get_within arcs a arc e, zip-length (IsArcOf p nodes) ms arcs are) in
      let read = read_within ms a there in
      let is = zip-at (IsArcOf p nodes) ms arcs a read.0 arc are read.1 e in
      let holds = zip-at (HoldsBounds span p) ms costs a read.0 c hold read.1 f in
      (subst (IsWithin (span c)) (sym is.low) holds.0, subst (IsWithin (span c)) (sym is.high) holds.1);
}

-- the graph with the arcs of all live measures
pub begun-arcs : (p : ProblemFacts) (k : ℕ) (g : Network Account Measure) → IsBegun p k g → length (live_measures p) ≤ k → AllZip (IsArcOf p (live_accounts p)) (live_measures p) g.arcs
begun-arcs p k g b l = subst (λ ms. AllZip (IsArcOf p (live_accounts p)) ms g.arcs) (take_all k (live_measures p) l) b.arcs

-- and costs that go with them are the circuit's
pub begun-circuit : {C : Type 0} (value : C → ℤ → ℤ) (p : ProblemFacts) (k : ℕ) (g h : Network Account Measure) (costs : List C) → IsBegun p k g → length (live_measures p) ≤ k → h ≡ g
    → AllZip (IsCostOf value p) (live_measures p) costs → IsCircuitOf value p h costs
begun-circuit value p k g h costs b l e terms =
    subst (λ (z : Network Account Measure). IsCircuitOf value p z costs) (sym e)
    (record {
      accounts = b.accounts;
      measures = b.measures ∙ take_all k (live_measures p) l;
      arcs = begun-arcs p k g b l;
      terms = terms;
    })
