-- What can be reached: each node on the way, and one more.
use Rattle.std.proofs.Common.{◌≢◌, ℕ, zero, suc, List, [], ◌∷◌, AllPairs, ◌⊎◌, inl, inr, refl, sym, subst, arith, ℤ}
use Rattle.std.specs.List.{AllByRecursion}
use Rattle.std.proofs.lemmas.Bool.{cases_eq}
use Rattle.std.proofs.lemmas.List.Elements.{recursion_from_All, All-from_recursion}
use Rattle.std.proofs.lemmas.List.Kept.{AllPairs-cons}
use Rattle.flow_residual.specs.Flows.{Flow}
use Rattle.flow_residual.specs.Path.{Move, Joins, Leads, IsOpen, Reaches}

-- all differ
abbrev AllApart : List ℕ → Type 0
AllApart [] = Unit {0}
AllApart (x ∷ xs) = AllByRecursion (λ k. x ≢ k) xs × AllApart xs

apart_from : (xs : List ℕ) → AllPairs ◌≢◌ xs → AllApart xs
apart_from [] h = tt
apart_from (x ∷ xs) h = (recursion_from_All (λ k. x ≢ k) xs (λ k d l. h zero (suc k) d (omega arith) (omega (arith, l))), apart_from xs (λ i j d l k. h (suc i) (suc j) d (omega (arith, l)) (omega (arith, k))))

pairs_from : (xs : List ℕ) → AllApart xs → AllPairs ◌≢◌ xs
pairs_from [] h = λ i j d l k. absurd (omega (arith, k))
pairs_from (x ∷ xs) h = AllPairs-cons ◌≢◌ x xs (All-from_recursion (λ k. x ≢ k) xs h.0) (pairs_from xs h.1)

module _ {N A C : Type 0} (s : Flow N A C) (step : ℤ) where
  abbrev AreOpen : List Move → Type 0
  AreOpen ms = AllByRecursion (IsOpen s step) ms

  -- a way by some of these nodes
  pub record IsWay (from to : ℕ) (nodes : List ℕ) : Type 0 where
    pub moves : List Move
    pub by : List ℕ
    pub leads : Leads s moves by from to
    pub apart : AllByRecursion (λ k. from ≢ k) by × AllApart by
    pub are_open : AreOpen moves
    pub some : (u : ℕ) → AllByRecursion (λ k. u ≢ k) nodes → AllByRecursion (λ k. u ≢ k) by

  reaches_from : (from to : ℕ) (nodes : List ℕ) → IsWay from to nodes → Reaches s step from to
  reaches_from from to nodes w = (w.moves, record { by_way_of = w.by; leads = w.leads; once = pairs_from (from ∷ w.by) w.apart; moves_open = All-from_recursion (IsOpen s step) w.moves w.are_open })

  way_more : (from n to : ℕ) (m : Move) (ns : List ℕ) → Joins s m from n → IsOpen s step m → AllByRecursion (λ k. from ≢ k) (n ∷ ns) → IsWay n to ns → IsWay from to (n ∷ ns)
  way_more from n to m ns j o a w = record {
    moves = m ∷ w.moves;
    by = n ∷ w.by;
    leads = (j, w.leads);
    apart = ((a.0, w.some from a.1), w.apart);
    are_open = (o, w.are_open);
    some = λ u b. (b.0, w.some u b.1);
  }

  -- the way to a node on the way
  way_to : (from to : ℕ) (ms : List Move) (ns : List ℕ) (v : ℕ) → Leads s ms ns from to → AllApart (from ∷ ns) → AreOpen ms → (AllByRecursion (λ k. v ≢ k) (from ∷ ns) → ⊥) → IsWay from v ns
  way_to from to ms ns v l a o h = elim (cases_eq v from) [
    | inl e ↦ record { moves = []; by = []; leads = sym e; apart = (tt, tt); are_open = tt; some = λ u b. tt }
    | inr e ↦ later from to ms ns v l a o (λ b. h (e, b))
  ]
    where
      later : (from to : ℕ) (ms : List Move) (ns : List ℕ) (v : ℕ) → Leads s ms ns from to → AllApart (from ∷ ns) → AreOpen ms → (AllByRecursion (λ k. v ≢ k) ns → ⊥) → IsWay from v ns
      later from to [] [] v l a o h = absurd (h tt)
      later from to [] (n ∷ ns) v l a o h = elim l [ ]
      later from to (m ∷ ms) [] v l a o h = elim l [ ]
      later from to (m ∷ ms) (n ∷ ns) v l a o h = way_more from n v m ns l.0 o.0 a.0 (elim (cases_eq v n) [
        | inl e ↦ record { moves = []; by = []; leads = sym e; apart = (tt, tt); are_open = tt; some = λ u b. tt }
        | inr e ↦ later n to ms ns v l.1 a.1 o.1 (λ b. h (e, b))
      ])

  -- one more move at the end
  way_on : (from u v : ℕ) (ms : List Move) (ns : List ℕ) (m : Move) → Leads s ms ns from u → AllApart (from ∷ ns) → AreOpen ms → AllByRecursion (λ k. v ≢ k) (from ∷ ns) → Joins s m u v → IsOpen s step m → IsWay from v (v ∷ ns)
  way_on from u v [] [] m l a o b j p = record {
    moves = m ∷ [];
    by = v ∷ [];
    leads = (subst (λ z. Joins s m z v) (sym l) j, refl);
    apart = ((λ e. b.0 (sym e), tt), (tt, tt));
    are_open = (p, tt);
    some = λ w c. (c.0, tt);
  }
  way_on from u v [] (n ∷ ns) m l a o b j p = elim l [ ]
  way_on from u v (k ∷ ms) [] m l a o b j p = elim l [ ]
  way_on from u v (k ∷ ms) (n ∷ ns) m l a o b j p =
      let w = way_on n u v ms ns m l.1 a.1 o.1 b.1 j p in
      record {
        moves = k ∷ w.moves;
        by = n ∷ w.by;
        leads = (l.0, w.leads);
        apart = ((a.0.0, w.some from (λ e. b.0 (sym e), a.0.1)), w.apart);
        are_open = (o.0, w.are_open);
        some = λ x c. (c.1.0, w.some x (c.0, c.1.1));
      }

  decide_apart : (v : ℕ) (ns : List ℕ) → AllByRecursion (λ k. v ≢ k) ns ⊎ (AllByRecursion (λ k. v ≢ k) ns → ⊥)
  decide_apart v [] = inl tt
  decide_apart v (n ∷ ns) = elim (cases_eq v n) [
    | inl e ↦ inr (λ b. b.0 e)
    | inr e ↦ elim (decide_apart v ns) [ inl b ↦ inl (e, b) | inr h ↦ inr (λ b. h b.1) ]
  ]

  -- an open move from a node that is reached leads to one
  pub reaches_on : (from u v : ℕ) (m : Move) → Reaches s step from u → Joins s m u v → IsOpen s step m → Reaches s step from v
  reaches_on from u v m r j o =
      let p = r.1 in
      let a = apart_from (from ∷ p.by_way_of) p.once in
      let opens = recursion_from_All (IsOpen s step) r.0 p.moves_open in
      elim (decide_apart v (from ∷ p.by_way_of)) [
        | inl b ↦ reaches_from from v (v ∷ p.by_way_of) (way_on from u v r.0 p.by_way_of m p.leads a opens b j o)
        | inr h ↦ reaches_from from v p.by_way_of (way_to from u r.0 p.by_way_of v p.leads a opens h)
      ]

  -- a node is reached from itself
  pub reaches_self : (from : ℕ) → Reaches s step from from
  reaches_self from = ([], record { by_way_of = []; leads = refl; once = pairs_from (from ∷ []) (tt, tt); moves_open = All-from_recursion (IsOpen s step) [] tt })
