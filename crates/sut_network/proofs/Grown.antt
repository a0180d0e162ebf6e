-- The graph of a network with one more arc, and the costs that go with its arcs.
use Rattle.std.proofs.Common.{◌≡◌, ℕ, ◌+◌, ◌<◌, ◌≤◌, List, [], ◌∷◌, ◌++◌, length, take, map, Some, None, true, false, ℤ, ◌≤ℤ◌, sym, ◌∙◌, ap, subst, arith, to_z, of_z}
use mir.Syntax.{w64}
use Rattle.std.specs.Prelude.{slice_get, option_map}
use Rattle.std.specs.List.{AllZip, list_any, position}
use Rattle.std.proofs.lemmas.Int.{ints}
use Rattle.std.proofs.lemmas.List.{length-take, length-map, map-append, take_all}
use Rattle.std.proofs.lemmas.Option.{slice_get-map}
use Rattle.sut_measures.specs.Keys.{account_key, measure_key}
use Rattle.sut_measures.specs.Ends.{left, entered}
use Rattle.sut_measures.specs.declared.accounts.Account.{Account}
use Rattle.sut_measures.specs.declared.measures.Measure.{Measure}
use Rattle.sut_measures.proofs.KeyLemmas.{account_key-injective}
use Rattle.sut_tables.specs.ProblemFacts.{ProblemFacts}
use Rattle.sut_tables.specs.Problems.{groups, live_measures, live_accounts}
use Rattle.sut_tables.proofs.Conservation.{live-sorted}
use Rattle.sut_tables.proofs.Converse.{EndsAmong, ends-are-live}
use Rattle.sut_tables.proofs.LiveCounts.{take-more}
use Rattle.flow_cost.specs.Cost.{IsWithin}
use Rattle.flow_graph.specs.declared.arcs.Arc.{Arc}
use Rattle.flow_graph.specs.Condition.{FitSpans}
use Rattle.flow_graph.specs.Network.{AreBounds, Network}
use Rattle.flow_graph.specs.Updates.{arc_fault, AddsArc}
use Rattle.sut_circuit.proofs.Fresh.{arc-fits}
use Rattle.sut_circuit.proofs.Names.{same_account, same_measure, account-same, measure-same, none-before, any-among, found-at}
use Rattle.sut_circuit.proofs.Places.{zip-length, All-at}
use Rattle.sut_circuit.proofs.Zips.{zip-push, zip-at}
use Rattle.sut_network.specs.Building.{IsBegun}
use Rattle.sut_network.specs.Networks.{HasEndsOf, IsNetworkOf, bounds_in}

-- there are as many arcs as were added
pub begun-count : (p : ProblemFacts) (k : ℕ) (g : Network Account Measure) → IsBegun p k g → k ≤ length (live_measures p) → length g.arcs ≡ k
begun-count p k g b h =
    omega (arith, zip-length (HasEndsOf p (live_accounts p)) (take k (live_measures p)) g.arcs b.ends, length-take k (live_measures p), h)

module _ (p : ProblemFacts) (g : Network Account Measure) (m : Measure) (from to : Account) (lo hi : ℤ) (begun : IsBegun p (length g.arcs) g)
    (next : slice_get (live_measures p) (length g.arcs) ≡ Some m) (left_is : from ≡ left (groups p) m) (entered_is : to ≡ entered (groups p) m) where
  fresh : list_any (same_measure m) g.names ≡ false
  fresh =
      subst (λ ns. list_any (same_measure m) ns ≡ false) (sym begun.measures)
      (none-before measure_key same_measure measure-same (live_measures p) (live-sorted p) (length g.arcs) m next)

  ends : EndsAmong (groups p) (live_accounts p) m
  ends = All-at (EndsAmong (groups p) (live_accounts p)) (live_measures p) (length g.arcs) m (ends-are-live p) next

  there_from : list_any (same_account from) g.nodes ≡ true
  there_from =
      subst (λ ns. list_any (same_account from) ns ≡ true) (sym begun.accounts)
      (subst (λ a. list_any (same_account a) (live_accounts p) ≡ true) (sym left_is) (any-among account_key same_account account-same (left (groups p) m) (live_accounts p) ends.0))

  there_to : list_any (same_account to) g.nodes ≡ true
  there_to =
      subst (λ ns. list_any (same_account to) ns ≡ true) (sym begun.accounts)
      (subst (λ a. list_any (same_account a) (live_accounts p) ≡ true) (sym entered_is) (any-among account_key same_account account-same (entered (groups p) m) (live_accounts p) ends.1))

  -- the arc of the next live measure is added without a fault
  pub no-fault : lo ≤ℤ hi → length g.arcs < 524_288 → arc_fault same_account same_measure g m from to lo hi ≡ None
  no-fault ordered room = arc-fits same_account g same_measure m from to lo hi fresh there_from there_to ordered room

  at-place : (a b : Account) (k : ℕ) → a ≡ b → position (same_account a) g.nodes ≡ Some k → slice_get (live_accounts p) k ≡ Some b
  at-place a b k same e =
      found-at account_key same_account account-same account_key-injective b (live_accounts p) k
      (subst (λ x. position (same_account x) (live_accounts p) ≡ Some k) same (subst (λ ns. position (same_account a) ns ≡ Some k) begun.accounts e))

  module _ (h : Network Account Measure) (adds : AddsArc same_account g h m from to lo hi) where
    arcs-are : h.arcs ≡ g.arcs ++ (record { tail = adds.tail; head = adds.head; lo = lo; hi = hi }) ∷ []
    arcs-are = ap (λ (z : Network Account Measure). z.arcs) adds.new_is

    -- the graph is begun with one more
    pub begun-more : IsBegun p (length g.arcs + 1) h
    begun-more =
        let is : HasEndsOf p (live_accounts p) m (record { tail = adds.tail; head = adds.head; lo = lo; hi = hi }) = record {
          tail = at-place from (left (groups p) m) adds.tail left_is adds.tail_is;
          head = at-place to (entered (groups p) m) adds.head entered_is adds.head_is;
        } in
        let names : h.names ≡ take (length g.arcs) (live_measures p) ++ m ∷ [] = ap (λ (z : Network Account Measure). z.names) adds.new_is ∙ ap (λ ns. ns ++ m ∷ []) begun.measures in
        let more : take (length g.arcs + 1) (live_measures p) ≡ take (length g.arcs) (live_measures p) ++ m ∷ [] = take-more (live_measures p) (length g.arcs) m next in
        record {
          accounts = ap (λ (z : Network Account Measure). z.nodes) adds.new_is ∙ begun.accounts;
          measures = names ∙ sym more;
          ends = subst (λ ms. AllZip (HasEndsOf p (live_accounts p)) ms h.arcs) (sym more)
              (subst (λ zs. AllZip (HasEndsOf p (live_accounts p)) (take (length g.arcs) (live_measures p) ++ m ∷ []) zs) (sym arcs-are)
              (zip-push (HasEndsOf p (live_accounts p)) (take (length g.arcs) (live_measures p)) g.arcs m (record { tail = adds.tail; head = adds.head; lo = lo; hi = hi }) begun.ends is));
        }

    -- and its bounds are those before, and these
    pub bounds-more : map bounds_in h.arcs ≡ map bounds_in g.arcs ++ (lo, hi) ∷ []
    bounds-more = ap (map bounds_in) arcs-are ∙ map-append bounds_in g.arcs ((record { tail = adds.tail; head = adds.head; lo = lo; hi = hi }) ∷ [])

-- bounds as machine words hold them
pub bounds-held : (lo hi : ℤ) → AreBounds lo hi → (to_z w64 (of_z w64 lo) ≡ lo) × (to_z w64 (of_z w64 hi) ≡ hi)
bounds-held lo hi b = (omega (arith, ints, b.low, b.ordered, b.high), omega (arith, ints, b.low, b.ordered, b.high))

-- the first bounds, and one more
pub bounds-next : (bounds before after : List (ℤ × ℤ)) (k : ℕ) (b : ℤ × ℤ) → slice_get bounds k ≡ Some b → before ≡ take k bounds → after ≡ before ++ b ∷ [] → after ≡ take (k + 1) bounds
bounds-next bounds before after k b e is next = next ∙ ap (λ bs. bs ++ b ∷ []) is ∙ sym (take-more bounds k b e)

-- the graph with the arcs of all live measures is the network
pub begun-network : (p : ProblemFacts) (k : ℕ) (g : Network Account Measure) → IsBegun p k g → length (live_measures p) ≤ k → IsNetworkOf p g
begun-network p k g b l = record {
  accounts = b.accounts;
  measures = b.measures ∙ take_all k (live_measures p) l;
  ends = subst (λ ms. AllZip (HasEndsOf p (live_accounts p)) ms g.arcs) (take_all k (live_measures p) l) b.ends;
}

-- the bounds of an arc and a cost whose span holds them
abbrev pub SpanHolds : {C : Type 0} → (C → ℤ) → ℤ × ℤ → C → Type 0
SpanHolds span b c = IsWithin (span c) b.0 × IsWithin (span c) b.1

-- spans that hold the bounds fit the arcs
pub spans-fit : {C : Type 0} (span : C → ℤ) (bounds : List (ℤ × ℤ)) (arcs : List Arc) (costs : List C) → map bounds_in arcs ≡ bounds → AllZip (SpanHolds span) bounds costs → FitSpans span arcs costs
spans-fit span bounds arcs costs are hold = record {
  counted = sym (zip-length (SpanHolds span) bounds costs hold) ∙ sym (ap length are) ∙ length-map arcs bounds_in;
  within = λ a arc c e f. zip-at (SpanHolds span) bounds costs a (bounds_in arc) c hold (at a arc e) f;
}
  where
    at : (a : ℕ) (arc : Arc) → slice_get arcs a ≡ Some arc → slice_get bounds a ≡ Some (bounds_in arc)
    at a arc e = ap (λ bs. slice_get bs a) (sym are) ∙ slice_get-map bounds_in arcs a ∙ ap (λ o. option_map bounds_in o) e
