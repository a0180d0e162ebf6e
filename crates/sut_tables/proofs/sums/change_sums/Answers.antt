use Rattle.std.proofs.Common.{sym, ◌∙◌, rules, arith, ap, take, subst, to_z, of_z, ◌^◌, ◌≡◌}
use mir.Syntax.{w128}
use mir.Val.{SFits}
use Rattle.std.proofs.lemmas.Int.{ints, to_z-of_z}
use Rattle.sut_tables.specs.CellSums.{IsUpTo, kept_for, sums_by}
use Rattle.sut_tables.proofs.SumChanges.{changed-up_to, added-more, added-past, added-all, sums_by-few}
use Rattle.sut_tables.proofs.sums.change_sums.Goals as goal
use Rattle.sut_tables.proofs.sums.change_sums.Goals.{in-Some, in_default}

pub add_to-requires-clause-numbers : goal.add_to-requires-clause-numbers
add_to-requires-clause-numbers c = λ q.
    let fits : SFits w128 c.args.change = c.ranges.change in
    changed-up_to q c.args.c (to_z w128 (of_z w128 c.args.change)) (sums_by c.args.product_group c.args.industry_group c.args.c) c.loop-k.k
    (subst (IsUpTo (2 ^ 50)) (sym (to_z-of_z w128 c.args.change fits)) c.requires.change) c.loop-k-test.true
    (kept_for c.args.sums.now q) (kept_for c.loop-k.sums q) (c.loop-k.invariant q) (c.requires.numbers q)

pub loop-k-preserved : goal.loop-k-preserved
loop-k-preserved c = λ q.
    let ws = sums_by c.args.product_group c.args.industry_group c.args.c in
    let d = to_z w128 (of_z w128 c.args.change) in
    let o = kept_for c.args.sums.now q in
    let r = kept_for c.loop-k.sums q in
    elim c.match-sum_with.branch [
      | in-Some w ↦ rw w.sums-is (added-more q c.args.c d ws c.loop-k.k w.in-Some.s _ (sym c.sum_with.ensures ∙ w.in-Some.is) ((omega (arith, ints)) ∙ w.signed.ensures.product) o r _ (c.loop-k.invariant q) (w.add_to.ensures q))
      | in_default w ↦ rw w.sums-is (added-past q c.args.c d ws c.loop-k.k (sym c.sum_with.ensures ∙ w.in_default.is) o r (c.loop-k.invariant q))
    ]

pub returns : goal.returns
returns c = λ q.
    let fits : SFits w128 c.args.change = c.ranges.change in
    let ws = sums_by c.args.product_group c.args.industry_group c.args.c in
    added-all q c.args.c c.args.change ws c.loop-k.k (omega (arith, sums_by-few c.args.product_group c.args.industry_group c.args.c)) (kept_for c.args.sums.now q) (kept_for c.loop-k.sums q) (simp to_z-of_z at (c.loop-k.invariant q))
