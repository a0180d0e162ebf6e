use Rattle.std.proofs.Common.{sym, ◌∙◌}
use Rattle.csv.specs.Records.{fields_of}
use Rattle.sut_records.specs.RecordList.{records_of}
use Rattle.sut_classes.proofs.FileLemmas.{no-record, no-format, under-format}
use Rattle.sut_classes.proofs.read.read_classes.Goals as goal

pub returns-then-not-branch : goal.returns-then-not-branch
returns-then-not-branch c lack =
    let next = rw c.if-not-branch.true at c.in_ok-next_line.ensures.next in
    sym (no-record (records_of c.args.bytes.now) (sym c.new-records.ensures.all ∙ next))

pub returns-in-Some : goal.returns-in-Some
returns-in-Some c lack =
    let next = rw c.if-not-branch.false at c.in_ok-next_line.ensures.next in
    c.read_under.ensures lack
    ∙ sym (under-format (records_of c.args.bytes.now) (fields_of c.next_line.new.row) c.next_line.new.records c.in-Some.format (sym c.new-records.ensures.all ∙ next) (sym c.format_named.ensures.value ∙ c.in-Some.is))

pub returns : goal.returns
returns c lack =
    let next = rw c.if-not-branch.false at c.in_ok-next_line.ensures.next in
    sym (no-format (records_of c.args.bytes.now) (fields_of c.next_line.new.row) c.next_line.new.records (sym c.new-records.ensures.all ∙ next) (sym c.format_named.ensures.value ∙ c.in-None.is))
