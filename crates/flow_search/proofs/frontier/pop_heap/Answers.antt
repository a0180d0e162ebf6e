use Rattle.std.proofs.Common.{◌≡◌, true, Some, inl, inr, ap, sym, arith, rules}
use Rattle.flow_graph.specs.Contradiction.{in_set}
use Rattle.flow_search.proofs.frontier.pop_heap.Goals as goal

pub returns-then-not-set-u-clause-rest : goal.returns-then-not-set-u-clause-rest
returns-then-not-set-u-clause-rest c = λ v a m. elim (c.take_first-u.ensures.kept v (c.loop-heaped.invariant.rest v a m)) [
  | inl k ↦ inl k
  | inr q ↦ inr (ap Some (sym q))
]

pub loop-heaped-preserved : goal.loop-heaped-preserved
loop-heaped-preserved c =
    let settled : in_set c.args.set.now c.take_first-u.result.0 ≡ true = first_of (cc, search rules, grind arith) in
    record {
      fewer = let e = c.take_first-u.ensures.fewer in let l = c.loop-heaped.invariant.fewer in omega (arith, e, l);
      queue = c.take_first-u.ensures.queue;
      rest = λ v a m. elim (c.take_first-u.ensures.kept v (c.loop-heaped.invariant.rest v a m)) [
        | inl k ↦ k
        | inr q ↦ absurd (let e = ap (in_set c.args.set.now) q in cc)
      ];
      no_more = λ v m. c.loop-heaped.invariant.no_more v (c.take_first-u.ensures.no_more v m);
    }
