use Rattle.std.proofs.Common.{◌∙◌, Err, ap, sym}
use Rattle.csv.specs.Records.{fields_of}
use Rattle.sut_records.specs.RecordList.{records_of}
use Rattle.sut_readback.proofs.Belongs.{read-belongs}
use Rattle.sut_readback.proofs.FileLemmas.{no-record, other-header, under-header}
use Rattle.sut_readback.proofs.read.read_balanced.Goals as goal

pub returns-then-not-branch-clause-read : goal.returns-then-not-branch-clause-read
returns-then-not-branch-clause-read c lack =
    let next = rw c.if-not-branch.true at c.in_ok-next_line.ensures.next in
    sym (no-record c.args.p.now (records_of c.args.bytes.now) (sym c.new-records.ensures.all ∙ next) ∙ ap (λ f. Err f) (sym c.no_header.ensures))

pub returns-then-not-is_header-clause-read : goal.returns-then-not-is_header-clause-read
returns-then-not-is_header-clause-read c lack =
    let next = rw c.if-not-branch.false at c.in_ok-next_line.ensures.next in
    sym (other-header c.args.p.now (records_of c.args.bytes.now) (fields_of c.next_line.new.row) c.next_line.new.records (sym c.new-records.ensures.all ∙ next) (sym c.is_header.ensures ∙ c.if-not-is_header.true)
    ∙ ap (λ f. Err f) (sym c.no_header-then-not-is_header.ensures))

pub returns-clause-read : goal.returns-clause-read
returns-clause-read c lack =
    let next = rw c.if-not-branch.false at c.in_ok-next_line.ensures.next in
    c.read_table.ensures lack
    ∙ sym (under-header c.args.p.now (records_of c.args.bytes.now) (fields_of c.next_line.new.row) c.next_line.new.records (sym c.new-records.ensures.all ∙ next) (sym c.is_header.ensures ∙ c.if-not-is_header.false))

pub returns-clause-belongs : goal.returns-clause-belongs
returns-clause-belongs c = read-belongs c.args.p.now c.kept.ensures.problem c.next_line.new.records c.read_table.result c.read_table.ensures
