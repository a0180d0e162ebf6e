use Rattle.std.proofs.Common.{◌≡◌, ◌∙◌, ap, length, arith}
use Rattle.std.specs.Prelude.{slice_get}
use Rattle.csv.specs.Records.{fields_of}
use Rattle.sut_cert.proofs.LineLemmas.{potential-refused, potential-taken}
use Rattle.sut_cert.proofs.read.add_potential.Goals as goal

pub returns-in-Err : goal.returns-in-Err
returns-in-Err c lack =
    let next : c.account_after-next.result ≡ slice_get c.args.live.now (length c.args.given.now.items) = c.account_after-next.ensures ∙ ap (slice_get c.args.live.now) (omega (arith, c.len.ensures, c.args.given.now.ok.0)) in
    potential-refused c.args.classes.now c.args.live.now c.args.line c.args.given.now.items (fields_of c.args.row.now) c.account_after-next.result c.in-Err.cause next c.in-Err.ensures

pub returns-in-Ok-push : goal.returns-in-Ok-push
returns-in-Ok-push c lack =
    let next : c.account_after-next.result ≡ slice_get c.args.live.now (length c.args.given.now.items) = c.account_after-next.ensures ∙ ap (slice_get c.args.live.now) (omega (arith, c.len.ensures, c.args.given.now.ok.0)) in
    potential-taken c.args.classes.now c.args.live.now c.args.line c.args.given.now.items c.push.new.self.items (fields_of c.args.row.now) c.account_after-next.result c.in-Ok.pair next c.in-Ok.ensures c.in-Ok-push.ensures.items
