use Rattle.std.proofs.Common.{◌≡◌, ◌≤◌, ◌-◌, ◌*◌, ◌+ℤ◌, ◌∙◌, if◌then◌else◌, ap, arith, length, pos, refl, subst, sym, to_z}
use mir.Syntax.{w128}
use Rattle.sut_tables.specs.CellSums.{IsUpTo}
use Rattle.sut_tables.specs.Problems.{groups}
use Rattle.sut_tables.specs.RowFacts.{RowFacts}
use Rattle.sut_tables.specs.Values.{int_sum_by}
use Rattle.sut_tables.proofs.Wide.{few-rows}
use Rattle.sut_cert.specs.Certificates as certificate
use Rattle.sut_cert.proofs.SetSums.{added-is, counted-all, counted-more, few-left, none-up_to, small-more}
use Rattle.sut_cert.proofs.sums.leaving.Goals as goal

pub loop-row-init : goal.loop-row-init
loop-row-init c =
    let p = c.args.p.now in
    let left = c.into_iter-row-iterator.result in
    let same = c.into_iter-row-iterator.ensures.into_iter_gives ∙ c.rows-row-items.ensures in
    record {
      counted = counted-all (λ (r : RowFacts). if certificate.leaves (groups p) c.args.s.now r.measure then r.upper else pos 0) left p.rows same;
      few = subst (λ rows. length rows ≤ 147456) (sym same) (few-rows p c.kept.ensures.limits);
      small = none-up_to ((147456 - length left) * 1000000000000);
    }

pub loop-row-preserved : goal.loop-row-preserved
loop-row-preserved c =
    let p = c.args.p.now in
    let f = λ (r : RowFacts). if certificate.leaves (groups p) c.args.s.now r.measure then r.upper else pos 0 in
    let r = c.in-Some.row.now in
    let rows = c.loop-row.row-iterator in
    let rest = c.next.new.self in
    let x = c.upper_leaving.result in
    let sum = to_z w128 c.loop-row.sum-bits in
    let added = added-is c.loop-row.sum-bits (length rows) sum c.from-sum.result x refl c.loop-row.invariant.small c.from-sum.ensures c.upper_leaving.ensures.range in
    let few = few-left r rest rows c.in-Some.ensures.steps c.loop-row.invariant.few in
    record {
      counted = ap (λ z. z +ℤ int_sum_by f rest) added ∙ counted-more r rest rows c.in-Some.ensures.steps f sum (certificate.leaving p c.args.s.now) x c.upper_leaving.ensures.value c.loop-row.invariant.counted;
      few = omega (arith, few);
      small = subst (IsUpTo ((147456 - length rest) * 1000000000000)) (sym added) (small-more r rest rows c.in-Some.ensures.steps sum x c.loop-row.invariant.few c.loop-row.invariant.small c.upper_leaving.ensures.range);
    }
