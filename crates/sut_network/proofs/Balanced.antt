-- Numbers that balance at each node of a problem's network are the values of a table that meets the identities.
use Rattle.std.proofs.Common.{◌≡◌, ℕ, ℤ, pos, ◌-ℤ◌, List, [], ◌∷◌, refl, sym, ◌∙◌, ap, subst, arith, Some, map}
use Rattle.std.specs.Prelude.{◌<◌, slice_get, get_or, length}
use Rattle.std.specs.List.{AllZip}
use Rattle.std.proofs.lemmas.Int.{ints}
use Rattle.std.proofs.lemmas.List.{length-map}
use Rattle.std.proofs.lemmas.Option.{slice_get-get_or}
use Rattle.sut_measures.specs.Keys.{account_key}
use Rattle.sut_measures.specs.Ends.{left, entered}
use Rattle.sut_measures.specs.declared.measures.Measure.{Measure}
use Rattle.sut_measures.specs.declared.accounts.Account.{Account}
use Rattle.sut_measures.specs.declared.accounts.Account.TheVariants as account
use Rattle.sut_tables.specs.ProblemFacts.{ProblemFacts}
use Rattle.sut_tables.specs.TableFacts.{TableFacts}
use Rattle.sut_tables.specs.InOrder.{same_key}
use Rattle.sut_tables.specs.Values.{int_sum_by, value_of}
use Rattle.sut_tables.specs.Problems.{IsProblem, IsTableOf, groups, row_at, live_measures, live_accounts}
use Rattle.sut_tables.specs.Identities.{MeetsIdentities}
use Rattle.sut_tables.specs.Flows.{IsBalanced}
use Rattle.sut_tables.proofs.Ordered.{Sorted}
use Rattle.sut_tables.proofs.Nodes.{where_so}
use Rattle.sut_tables.proofs.Conservation.{live-sorted, conservation-at}
use Rattle.sut_tables.proofs.Converse.{table_of-of, live-values, table-meets}
use Rattle.flow_graph.specs.declared.arcs.Arc.{Arc}
use Rattle.flow_graph.specs.Network.{Network}
use Rattle.flow_graph.specs.Circulation.{inflow, outflow}
use Rattle.sut_circuit.specs.Circuit.{cost_of, flows_of, number_in, table_from}
use Rattle.sut_circuit.proofs.Circulations.{accounts-sorted, table-back as circuit_table-back}
use Rattle.sut_circuit.proofs.Places.{zip-length, map-same-all, places-same, numbers-back}
use Rattle.sut_circuit.proofs.Written.{circuit_of, circuit_of-is}
use Rattle.sut_network.specs.Networks.{HasEndsOf, IsNetworkOf, AreBalanced}

-- ---- what meets a node

module _ (p : ProblemFacts) (nodes : List Account) (sorted : Sorted account_key nodes) (x : Measure → ℤ) (k : ℕ) (a : Account) (at : slice_get nodes k ≡ Some a) where
  inflow-is : (ms : List Measure) (arcs : List Arc) → AllZip (HasEndsOf p nodes) ms arcs
      → inflow arcs (map x ms) k ≡ int_sum_by (λ m. where_so (same_key (account_key (entered (groups p) m)) (account_key a)) (x m)) ms
  inflow-is [] [] h = refl
  inflow-is [] (arc ∷ arcs) h = absurd h
  inflow-is (m ∷ ms) [] h = absurd h
  inflow-is (m ∷ ms) (arc ∷ arcs) h =
      rw (places-same account_key nodes sorted arc.head k (entered (groups p) m) a h.0.head at, inflow-is ms arcs h.1) refl

  outflow-is : (ms : List Measure) (arcs : List Arc) → AllZip (HasEndsOf p nodes) ms arcs
      → outflow arcs (map x ms) k ≡ int_sum_by (λ m. where_so (same_key (account_key (left (groups p) m)) (account_key a)) (x m)) ms
  outflow-is [] [] h = refl
  outflow-is [] (arc ∷ arcs) h = absurd h
  outflow-is (m ∷ ms) [] h = absurd h
  outflow-is (m ∷ ms) (arc ∷ arcs) h =
      rw (places-same account_key nodes sorted arc.tail k (left (groups p) m) a h.0.tail at, outflow-is ms arcs h.1) refl

module _ (p : ProblemFacts) (ok : IsProblem p) (g : Network Account Measure) (network : IsNetworkOf p g) where
  -- there are as many arcs as live measures
  pub arcs-counted : length (live_measures p) ≡ length g.arcs
  arcs-counted = zip-length (HasEndsOf p (live_accounts p)) (live_measures p) g.arcs network.ends

  -- ---- from balanced numbers to a table

  module _ (xs : List ℤ) (counted : length xs ≡ length g.arcs) (even : AreBalanced g xs) where
    numbers : map (number_in (live_measures p) xs) (live_measures p) ≡ xs
    numbers = numbers-back (live_measures p) xs (live-sorted p) (arcs-counted ∙ sym counted)

    balanced : IsBalanced p (number_in (live_measures p) xs)
    balanced k d h =
        sym (inflow-is p (live_accounts p) (accounts-sorted p) (number_in (live_measures p) xs) k (get_or (live_accounts p) k d) (slice_get-get_or (live_accounts p) k d h) (live_measures p) g.arcs network.ends)
        ∙ ap (λ ys. inflow g.arcs ys k) numbers
        ∙ equal (inflow g.arcs xs k) (outflow g.arcs xs k) (even k (subst (λ ns. k < length ns) (sym network.accounts) h))
        ∙ ap (λ ys. outflow g.arcs ys k) (sym numbers)
        ∙ outflow-is p (live_accounts p) (accounts-sorted p) (number_in (live_measures p) xs) k (get_or (live_accounts p) k d) (slice_get-get_or (live_accounts p) k d h) (live_measures p) g.arcs network.ends
      where
        equal : (y z : ℤ) → y -ℤ z ≡ pos 0 → y ≡ z
        equal y z e = omega (arith, ints)

    pub table-of_problem : IsTableOf p (table_from p xs)
    table-of_problem = table_of-of p (number_in (live_measures p) xs)

    pub table-identities : MeetsIdentities (table_from p xs)
    table-identities = table-meets p ok (number_in (live_measures p) xs) balanced

    -- the values of the table are the numbers on the arcs
    pub values-back : flows_of p (table_from p xs) ≡ xs
    values-back =
        sym (map-same-all (number_in (live_measures p) xs) (value_of (table_from p xs)) (live_measures p) (live-values p ok (number_in (live_measures p) xs) balanced))
        ∙ numbers

  -- ---- from a table to balanced numbers

  module _ (t : TableFacts) (of : IsTableOf p t) where
    pub values-counted : length (flows_of p t) ≡ length g.arcs
    values-counted = length-map (live_measures p) (value_of t) ∙ arcs-counted

    pub values-balanced : MeetsIdentities t → AreBalanced g (flows_of p t)
    values-balanced meets = λ k l. by k (slice_get-get_or (live_accounts p) k account.Income (subst (λ ns. k < length ns) network.accounts l))
      where
        equal : (y z : ℤ) → y ≡ z → y -ℤ z ≡ pos 0
        equal y z e = omega (arith, ints)

        by : (k : ℕ) → slice_get (live_accounts p) k ≡ Some (get_or (live_accounts p) k account.Income) → inflow g.arcs (flows_of p t) k -ℤ outflow g.arcs (flows_of p t) k ≡ pos 0
        by k e =
            equal (inflow g.arcs (flows_of p t) k) (outflow g.arcs (flows_of p t) k)
            (inflow-is p (live_accounts p) (accounts-sorted p) (value_of t) k (get_or (live_accounts p) k account.Income) e (live_measures p) g.arcs network.ends
            ∙ conservation-at p t ok of meets (get_or (live_accounts p) k account.Income)
            ∙ sym (outflow-is p (live_accounts p) (accounts-sorted p) (value_of t) k (get_or (live_accounts p) k account.Income) e (live_measures p) g.arcs network.ends))

    -- the table of a table's values is that table
    pub table-back : table_from p (flows_of p t) ≡ t
    table-back = circuit_table-back cost_of p ok (circuit_of p) (map (row_at p) (live_measures p)) (circuit_of-is p) t of
