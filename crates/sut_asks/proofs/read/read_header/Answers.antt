use Rattle.std.proofs.Common.{◌∙◌, ap, arith, length, sym}
use Rattle.csv.specs.Records.{fields_of}
use Rattle.sut_asks.proofs.AskLemmas.{no-record, other-header, right-header}
use Rattle.sut_asks.proofs.read.read_header.Goals as goal

pub returns-in-Err-clause-value : goal.returns-in-Err-clause-value
returns-in-Err-clause-value c lack = absurd (lack c.in-Err.ensures.memory)

pub returns-then-not-found-clause-value : goal.returns-then-not-found-clause-value
returns-then-not-found-clause-value c lack p = no-record p c.args.records.now (rw c.if-not-found.true at c.in-Ok.ensures.next)

pub returns-then-not-is_header-clause-value : goal.returns-then-not-is_header-clause-value
returns-then-not-is_header-clause-value c lack p =
    other-header p c.args.records.now (fields_of c.next_line.new.row) c.next_line.new.records
    (rw c.if-not-found.false at c.in-Ok.ensures.next) (sym c.is_header.ensures ∙ c.if-not-is_header.true)

pub returns-clause-few : goal.returns-clause-few
returns-clause-few c =
    let next = rw c.if-not-found.false at c.in-Ok.ensures.next in
    let shorter = ap length next in
    omega (arith, shorter)

pub returns-clause-value : goal.returns-clause-value
returns-clause-value c lack p =
    right-header p c.args.records.now (fields_of c.next_line.new.row) c.next_line.new.records
    (rw c.if-not-found.false at c.in-Ok.ensures.next) (sym c.is_header.ensures ∙ c.if-not-is_header.false)
