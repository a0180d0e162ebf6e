-- The arcs of measures without a row never bind, and cross no set that contradicts.
use Rattle.std.proofs.Common.{◌≡◌, ℤ, Some, Option, refl, sym, ◌∙◌, ap, subst}
use Rattle.std.specs.Prelude.{IsNone, option_map, slice_get}
use Rattle.std.proofs.lemmas.Option.{slice_get-map}
use Rattle.sut_measures.specs.Ends.{left, entered}
use Rattle.sut_tables.specs.RowFacts.{RowFacts}
use Rattle.sut_tables.specs.Problems.{groups, row_at, live_measures, live_accounts}
use Rattle.sut_tables.specs.Values.{value_of}
use Rattle.sut_tables.proofs.Wide.{value-within}
use Rattle.sut_cert.specs.Certificates.{has_account}
use Rattle.flow_cost.specs.Cost.{IsWithin}
use Rattle.sut_circuit.specs.Circuit.{IsArcOf, marked, table_from}
use Rattle.sut_circuit.specs.CircuitLaws.{WideArcs}
use Rattle.sut_circuit.proofs.Circulations.{accounts-sorted, flows-back, table-admissible}
use Rattle.sut_circuit.proofs.CutsBack.{accounts-contradict, marked-at}
use Rattle.sut_circuit.proofs.Places.{All-at, some-same}
use Rattle.sut_circuit.proofs.Zips.{zip-at}

pub wide-arcs : {C : Type 0} (value : C → ℤ → ℤ) → WideArcs value
wide-arcs value = λ p g costs b a m arc named there none.
    let at : slice_get (live_measures p) a ≡ Some m = subst (λ ms. slice_get ms a ≡ Some m) b.circuit.measures named in
    let is = zip-at (IsArcOf p (live_accounts p)) (live_measures p) g.arcs a m arc b.circuit.arcs at there in (
      (λ xs circulation x e.
          let t = table_from p xs in
          let same : value_of (table_from p xs) m ≡ x =
          some-same (value_of (table_from p xs) m) x
          (ap (option_map (value_of (table_from p xs))) (sym at) ∙ sym (slice_get-map (value_of (table_from p xs)) (live_measures p) a) ∙ ap (λ ys. slice_get ys a) (flows-back value p b.problem g costs b.circuit xs circulation) ∙ e) in
          let within = value-within p (table_from p xs) b.problem b.limits (table-admissible value p b.problem g costs b.circuit xs circulation) m in
          subst (IsWithin _) same (record { low = within.0; high = within.1 })),
      (λ marks con.
          let N : Option RowFacts → Type 0 = λ o. IsNone o in
          let sides = All-at (λ m. IsNone (row_at p m) → has_account (marked (live_accounts p) marks) (left (groups p) m) ≡ has_account (marked (live_accounts p) marks) (entered (groups p) m))
          (live_measures p) a m (accounts-contradict value p b.problem b.limits g costs b.circuit marks con).uncrossed at (subst N (sym none) refl) in
          sym (marked-at (live_accounts p) marks (accounts-sorted p) arc.tail (left (groups p) m) is.tail) ∙ sides ∙ marked-at (live_accounts p) marks (accounts-sorted p) arc.head (entered (groups p) m) is.head),
    )
