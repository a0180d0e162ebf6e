use Rattle.std.proofs.Common.{◌≡◌, arith, length, sym}
use Rattle.csv.specs.Records.{fields_of}
use Rattle.sut_asks.proofs.AskLemmas.{line-added, line-refused}
use Rattle.sut_asks.proofs.read.add_ask.Goals as goal

pub returns-in-Err : goal.returns-in-Err
returns-in-Err c lack =
    let before : c.len.result ≡ length c.args.asks.now.items = omega (arith, c.len.ensures, c.args.asks.now.ok) in
    line-refused c.args.p.now c.args.line c.args.asks.now.items (fields_of c.args.row.now) c.in-Err.cause (rw before at (sym c.in-Err.ensures))

pub returns-in-Ok-push : goal.returns-in-Ok-push
returns-in-Ok-push c lack =
    let before : c.len.result ≡ length c.args.asks.now.items = omega (arith, c.len.ensures, c.args.asks.now.ok) in
    line-added c.args.p.now c.args.line c.args.asks.now.items (fields_of c.args.row.now) c.in-Ok.m c.push.new.self.items
    (rw before at (sym c.in-Ok.ensures)) c.in-Ok-push.ensures.items
