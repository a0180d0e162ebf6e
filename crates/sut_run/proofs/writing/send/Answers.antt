use Rattle.std.proofs.Common.{Err, map}
use Rattle.sut_outside.specs.Deliveries.{WrittenAll}
use Rattle.sut_outside.specs.Files.{Files, Told}
use Rattle.sut_outside.specs.Sent.{AppendsPart}
use Rattle.sut_outside.proofs.Told.{told_as}
use Rattle.sut_run.specs.declared.writing.Output.{Output}
use Rattle.sut_run.specs.Outputs.{texts_in}
use Rattle.sut_run.specs.Steps.{Delivered, Sends, WritesEnd}
use Rattle.sut_run.proofs.Delivered.{stop-stands, stops-delivery, stops-no-sink}
use Rattle.sut_run.proofs.Printed.{stop-puts}
use Rattle.sut_run.proofs.writing.send.Goals as goal

pub returns-in-Err-clause-stands : goal.returns-in-Err-clause-stands
returns-in-Err-clause-stands g c =
    let texts = texts_in c.args.outputs.now in
    let sent = g.K.Sink.sent c.args.out.now in
    told_as (WritesEnd texts {T = Unit {0}} (Err c.in-Err.stopped)) (λ old new. Delivered texts c.args.lines.now {T = Unit {0}} (Err c.in-Err.stopped) old new sent sent)
    (stop-stands texts c.args.lines.now (map (λ (output : Output). output.name) c.args.outputs.now) c.in-Err.stopped c.in-Err.ensures.writes sent) _ _ c.in-Err.ensures.ends

pub returns-in-Err-clause-stops : goal.returns-in-Err-clause-stops
returns-in-Err-clause-stops g c = stops-delivery (map (λ (output : Output). output.name) c.args.outputs.now) c.in-Err.stopped c.in-Err.ensures.writes

pub returns-in-Err-clause-sink_fault : goal.returns-in-Err-clause-sink_fault
returns-in-Err-clause-sink_fault g c e = absurd (stops-no-sink (map (λ (output : Output). output.name) c.args.outputs.now) c.in-Err.stopped c.in-Err.ensures.writes e)

pub returns-in-Ok-put-clause-stands : goal.returns-in-Ok-put-clause-stands
returns-in-Ok-put-clause-stands g c =
    told_as (WrittenAll (texts_in c.args.outputs.now))
    (λ (old new : Files). WrittenAll (texts_in c.args.outputs.now) old new × Told (g.K.Sink.sent c.args.out.now) (g.K.Sink.sent c.put.new.self) (Sends c.args.lines.now))
    (λ old new w. (w, c.in-Ok-put.ensures.sent)) _ _ c.in-Ok.ensures.ends

pub returns-in-Err-put-clause-stands : goal.returns-in-Err-put-clause-stands
returns-in-Err-put-clause-stands g c =
    told_as (WrittenAll (texts_in c.args.outputs.now))
    (λ (old new : Files). WrittenAll (texts_in c.args.outputs.now) old new × Told (g.K.Sink.sent c.args.out.now) (g.K.Sink.sent c.put.new.self) (AppendsPart c.args.lines.now))
    (λ old new w. (w, c.in-Err-put.ensures.sent)) _ _ c.in-Ok.ensures.ends

pub returns-in-Err-clause-sent : goal.returns-in-Err-clause-sent
returns-in-Err-clause-sent g c =
    stop-puts c.args.lines.now (map (λ (output : Output). output.name) c.args.outputs.now) c.in-Err.stopped c.in-Err.ensures.writes (g.K.Sink.sent c.args.out.now)
