use Rattle.std.proofs.Common.{◌+◌, ◌*◌, ◌^◌, arith}
use Rattle.sut_write.specs.Supply.{supply_number}
use Rattle.sut_write.proofs.Sums.{sum-step, summed}
use Rattle.sut_write.proofs.supply.column_sum.Goals as goal

pub loop-place-preserved : goal.loop-place-preserved
loop-place-preserved c =
    let k = c.loop-place.place in
    let step = summed c.loop-place.sum-bits (k * 2 ^ 69) (2 ^ 69) ((k + 1) * 2 ^ 69) c.supply_number-sum.result c.loop-place.invariant.small c.supply_number-sum.ensures.small (omega arith) (omega arith) in
    record {
      sum = sum-step (λ n. supply_number c.args.p.now.classes c.args.t.now c.args.column (record { 0 = n })) k c.loop-place.sum-bits ((k + 1) * 2 ^ 69) c.supply_number-sum.result step c.loop-place.invariant.sum c.supply_number-sum.ensures.value;
      small = step.small;
    }
