use Rattle.std.proofs.Common.{◌≡◌, ◌<◌, ◌∙◌, ap, sym, rules, arith, length}
use Rattle.sut_tables.specs.CellSums.{kept_for, sums_by}
use Rattle.sut_tables.proofs.ZeroTables.{kept-zero, started-more, started-past, started-all}
use Rattle.sut_tables.proofs.sums.start_sums.Goals as goal
use Rattle.sut_tables.proofs.sums.start_sums.Goals.{in-Some+in_ok-insert, in_default}

pub loop-k-preserved : goal.loop-k-preserved
loop-k-preserved c = λ q.
    let ws = sums_by c.args.product_group c.args.industry_group c.args.c in
    elim c.match-sum_with.branch [
      | in-Some+in_ok-insert w ↦ rw w.sums-is (started-more q ws c.loop-k.k _ _ (c.loop-k.invariant q) w.in-Some.s (sym c.sum_with.ensures ∙ w.in-Some.is) _ (kept-zero c.loop-k.sums w.insert.new.self w.in-Some.s w.in_ok-insert.ensures.updates q))
      | in_default w ↦ rw w.sums-is (started-past q ws c.loop-k.k _ _ (c.loop-k.invariant q) (sym c.sum_with.ensures ∙ w.in_default.is))
    ]
