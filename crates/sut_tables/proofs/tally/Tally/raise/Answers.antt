use Rattle.std.proofs.Common.{◌+◌, ◌≤◌, [], ◌∷◌, ap, arith, subst, sym, ◌∙◌}
use Rattle.std.specs.Prelude.{is_some, unwrap_or}
use Rattle.std.proofs.lemmas.Map.Views.{All-values-insert_entry, All-values-set_value}
use Rattle.sut_tables.specs.Tallies.{AllCounted, count_of, times_in}
use Rattle.sut_tables.proofs.Counts.{raised}
use Rattle.sut_tables.proofs.tally.Tally.raise.Goals as goal

pub invariant_of-self : goal.invariant_of-self
invariant_of-self g c =
    rw (c.get_mut.follows.holds (c.in-Some.n.now + 1)).0
    (All-values-set_value _ (λ n. 1 ≤ n) c.self.inside.counts.entries (c.in-Some.n.now + 1) c.self.invariant (omega arith))

pub invariant_of-self-2 : goal.invariant_of-self-2
invariant_of-self-2 g c =
    rw c.in_ok-insert.ensures.entries
    (All-values-insert_entry g.K.Ord.cmp c.args.k 1 (λ n. 1 ≤ n) _ (subst (λ m. AllCounted m.entries) (sym c.get_mut.follows.holds-at-none) c.self.invariant) (omega arith))

pub returns-in-Some-clause-ok : goal.returns-in-Some-clause-ok
returns-in-Some-clause-ok g c = λ q.
    raised g.met.K.Ord.total c.self.inside.counts (c.get_mut.follows.lender (c.in-Some.n.now + 1)) c.args.k (c.in-Some.n.now + 1)
    (ap (λ o. unwrap_or o 0 + 1) c.in-Some.ensures.value) ((c.get_mut.follows.holds (c.in-Some.n.now + 1)).3 (sym (ap is_some c.in-Some.ensures.value))) q
    ∙ ap (λ es. count_of g.K.Ord.cmp es q + times_in g.K.Ord.cmp (c.args.k ∷ []) q) c.self.view_is
