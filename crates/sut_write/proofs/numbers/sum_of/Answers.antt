use Rattle.std.proofs.Common.{◌+◌, ◌*◌, ◌^◌, ◌∙◌, ap, arith}
use Rattle.sut_tables.specs.Values.{value_of}
use Rattle.sut_write.specs.Series.{measure_in}
use Rattle.sut_write.proofs.Sums.{sum-step, summed}
use Rattle.sut_write.proofs.numbers.sum_of.Goals as goal

pub loop-place-preserved : goal.loop-place-preserved
loop-place-preserved c =
    let k = c.loop-place.place in
    let step = summed c.loop-place.sum-bits (k * 2 ^ 58) (2 ^ 58) ((k + 1) * 2 ^ 58) c.value_in-sum.result c.loop-place.invariant.small c.value_in-sum.ensures.small (omega arith) (omega arith) in
    record {
      sum = sum-step (λ n. value_of c.args.t.now (measure_in c.args.series n)) k c.loop-place.sum-bits ((k + 1) * 2 ^ 58) c.value_in-sum.result step c.loop-place.invariant.sum (c.value_in-sum.ensures.value ∙ ap (value_of c.args.t.now) c.measure_of.ensures);
      small = step.small;
    }
