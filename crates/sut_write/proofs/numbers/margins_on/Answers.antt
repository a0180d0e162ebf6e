use Rattle.std.proofs.Common.{◌+◌, ◌*◌, ◌^◌, arith}
use Rattle.sut_write.specs.Numbers.{net_margin}
use Rattle.sut_write.proofs.Sums.{sum-step, summed}
use Rattle.sut_write.proofs.numbers.margins_on.Goals as goal

pub loop-kind-preserved : goal.loop-kind-preserved
loop-kind-preserved c =
    let k = c.loop-kind.kind in
    let step = summed c.loop-kind.sum-bits (k * 2 ^ 59) (2 ^ 59) ((k + 1) * 2 ^ 59) c.net_margin-sum.result c.loop-kind.invariant.small c.net_margin-sum.ensures.small (omega arith) (omega arith) in
    record {
      sum = sum-step (λ n. net_margin c.args.t.now (record { 0 = n }) c.args.i) k c.loop-kind.sum-bits ((k + 1) * 2 ^ 59) c.net_margin-sum.result step c.loop-kind.invariant.sum c.net_margin-sum.ensures.value;
      small = step.small;
    }
