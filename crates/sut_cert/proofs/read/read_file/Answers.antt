use Rattle.std.proofs.Common.{sym, ◌∙◌}
use Rattle.csv.specs.Records.{fields_of}
use Rattle.sut_records.specs.RecordList.{records_of}
use Rattle.sut_cert.proofs.FileLemmas.{no-header, no-record, under-cut, under-potentials}
use Rattle.sut_cert.proofs.read.read_file.Goals as goal

pub returns-then-not-branch : goal.returns-then-not-branch
returns-then-not-branch c lack =
    let next = rw c.if-not-branch.true at c.in_ok-next_line.ensures.next in
    no-record c.args.classes.now c.args.live.now (records_of c.args.bytes.now) (sym c.new-records.ensures.all ∙ next)

pub returns-then-is_potentials_header : goal.returns-then-is_potentials_header
returns-then-is_potentials_header c lack =
    let next = rw c.if-not-branch.false at c.in_ok-next_line.ensures.next in
    c.read_potentials.ensures lack
    ∙ under-potentials c.args.classes.now c.args.live.now (records_of c.args.bytes.now) (fields_of c.next_line.new.row) c.next_line.new.records (sym c.new-records.ensures.all ∙ next)
    (sym c.is_potentials_header.ensures ∙ c.if-is_potentials_header.true)

pub returns-then-is_cut_header : goal.returns-then-is_cut_header
returns-then-is_cut_header c lack =
    let next = rw c.if-not-branch.false at c.in_ok-next_line.ensures.next in
    c.read_cut.ensures lack
    ∙ under-cut c.args.classes.now c.args.live.now (records_of c.args.bytes.now) (fields_of c.next_line.new.row) c.next_line.new.records (sym c.new-records.ensures.all ∙ next)
    (sym c.is_potentials_header.ensures ∙ c.if-is_potentials_header.false) (sym c.is_cut_header.ensures ∙ c.if-is_cut_header.true)

pub returns : goal.returns
returns c lack =
    let next = rw c.if-not-branch.false at c.in_ok-next_line.ensures.next in
    no-header c.args.classes.now c.args.live.now (records_of c.args.bytes.now) (fields_of c.next_line.new.row) c.next_line.new.records (sym c.new-records.ensures.all ∙ next)
    (sym c.is_potentials_header.ensures ∙ c.if-is_potentials_header.false) (sym c.is_cut_header.ensures ∙ c.if-is_cut_header.false)
