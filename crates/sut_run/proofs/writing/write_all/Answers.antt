use Rattle.std.proofs.Common.{◌≡◌, ◌<◌, ◌+◌, Some, Err, length, take, arith}
use Rattle.sut_outside.specs.Files.{SameOtherFiles}
use Rattle.sut_outside.specs.Deliveries.{WrittenAll}
use Rattle.sut_outside.proofs.NoneFailed.{both_stay}
use Rattle.sut_outside.proofs.Told.{told_then}
use Rattle.sut_run.specs.Outputs.{texts_in}
use Rattle.sut_run.specs.Steps.{WritesEnd}
use Rattle.sut_run.proofs.Lists.{written_step, stopped_step}
use Rattle.sut_run.proofs.writing.write_all.Goals as goal

pub returns-in-Err-clause-ends : goal.returns-in-Err-clause-ends
returns-in-Err-clause-ends g c =
    let outputs = c.args.outputs.now in
    let i = c.loop-output.output-index in
    let below : i < length outputs = omega arith in
    told_then (WrittenAll (texts_in (take i outputs))) (SameOtherFiles c.output-item.result.name)
    (WritesEnd (texts_in outputs) {T = Unit {0}} (Err c.in-Err.stopped))
    (stopped_step outputs i c.output-item.result below c.output-item.is c.in-Err.stopped c.in-Err.ensures.stopped)
    _ _ _ c.loop-output.invariant.written c.in-Err.ensures.written

pub returns-in-Err-clause-stays : goal.returns-in-Err-clause-stays
returns-in-Err-clause-stays g c other =
    both_stay c.loop-output.invariant.stays (c.in-Err.ensures.stays other)

pub loop-output-preserved : goal.loop-output-preserved
loop-output-preserved g c =
    let outputs = c.args.outputs.now in
    let i = c.loop-output.output-index in
    let output = c.output-item.result in
    let below : i < length outputs = omega arith in
    record {
      written = told_then (WrittenAll (texts_in (take i outputs)))
          (λ now new. (new output.name ≡ Some output.text.items) × SameOtherFiles output.name now new)
          (WrittenAll (texts_in (take (i + 1) outputs)))
          (written_step outputs i output below c.output-item.is)
          _ _ _ c.loop-output.invariant.written c.in-Ok.ensures.written;
      later = omega arith;
      stays = both_stay c.loop-output.invariant.stays (c.in-Ok.ensures.stays (λ h. h));
    }
