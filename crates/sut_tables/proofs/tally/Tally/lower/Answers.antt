use Rattle.std.proofs.Common.{◌-◌, ◌≤◌, [], ◌∷◌, Some, ap, sym, subst, ◌∙◌, arith}
use Rattle.std.specs.Prelude.{is_some, unwrap_or}
use Rattle.std.specs.BTreeMap.{is_at}
use Rattle.std.proofs.lemmas.Map.Steps.{set_value_same}
use Rattle.std.proofs.lemmas.Map.Views.{All-map-remove_entry, All-values-set_value}
use Rattle.sut_tables.specs.Tallies.{AllCounted, count_of, times_in}
use Rattle.sut_tables.proofs.Counts.{lowered}
use Rattle.sut_tables.proofs.tally.Tally.lower.Goals as goal
use Rattle.sut_tables.proofs.tally.Tally.lower.Goals.{in-Some+else-n-gt1, in_default}

pub invariant_of-self : goal.invariant_of-self
invariant_of-self g c =
    rw (c.get_mut.follows.holds (c.in-Some.n.now - 1)).0
    (All-values-set_value _ (λ n. 1 ≤ n) c.self.inside.counts.entries (c.in-Some.n.now - 1) c.self.invariant (omega arith))

pub returns-then-n-gt1 : goal.returns-then-n-gt1
returns-then-n-gt1 g c = λ q.
    lowered g.met.K.Ord.total c.self.inside.counts (c.get_mut.follows.lender (c.in-Some.n.now - 1)) c.args.k (Some (c.in-Some.n.now - 1))
    (ap (λ o. unwrap_or o 0 - 1) c.in-Some.ensures.value) ((c.get_mut.follows.holds (c.in-Some.n.now - 1)).3 (sym (ap is_some c.in-Some.ensures.value))) q
    ∙ ap (λ es. count_of g.K.Ord.cmp es q - times_in g.K.Ord.cmp (c.args.k ∷ []) q) c.self.view_is

pub invariant_of-self-2 : goal.invariant_of-self-2
invariant_of-self-2 g c =
    rw c.remove.ensures.entries
    (All-map-remove_entry (is_at (g.K.Ord.cmp c.args.k)) (λ e. e.1) (λ n. 1 ≤ n) c.match-get_mut.self-inside.counts.entries counted)
  where
    counted : AllCounted c.match-get_mut.self-inside.counts.entries
    counted = elim c.match-get_mut.branch [
      | in-Some+else-n-gt1 w ↦
          subst AllCounted
          (sym (ap (λ s. s.counts.entries) w.self-inside-is ∙ (c.get_mut.follows.holds w.in-Some.n.now).0 ∙ set_value_same _ _ _ (sym w.in-Some.ensures.value)))
          c.self.invariant
      | in_default w ↦ subst AllCounted (sym (ap (λ s. s.counts.entries) w.self-inside-is ∙ ap (λ m. m.entries) c.get_mut.follows.holds-at-none)) c.self.invariant
    ]
