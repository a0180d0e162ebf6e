use Rattle.std.proofs.Common.{◌+◌, ◌*◌, ◌^◌, arith}
use Rattle.sut_write.specs.Use.{line_number, or_zero}
use Rattle.sut_write.proofs.Sums.{sum-element, summed}
use Rattle.sut_write.proofs.use_table.line_sum.Goals as goal

pub loop-column-preserved : goal.loop-column-preserved
loop-column-preserved c =
    let k = c.loop-column.column-index in
    let step = summed c.loop-column.sum-bits (k * 2 ^ 58) (2 ^ 58) ((k + 1) * 2 ^ 58) c.number_or_zero-sum.result c.loop-column.invariant.small c.number_or_zero-sum.ensures.small (omega arith) (omega arith) in
    record {
      sum = sum-element (λ q. or_zero (line_number c.args.t.now c.args.line q)) c.args.columns.now k _ c.loop-column.sum-bits ((k + 1) * 2 ^ 58) c.number_or_zero-sum.result c.loop-column-test.true step c.loop-column.invariant.sum c.number_or_zero-sum.ensures.value;
      small = step.small;
    }
