use Rattle.std.proofs.Common.{◌∙◌, Ok, Err, ap, sym}
use Rattle.sut_records.specs.FirstFault.{read_lines}
use Rattle.sut_readback.specs.BalancedFile.{table_line}
use Rattle.sut_readback.specs.declared.faults.BalancedCause.TheVariants as fault
use Rattle.sut_readback.proofs.FileLemmas.{table-fault, table-short, table-whole}
use Rattle.sut_readback.proofs.ListSteps.{none-left}
use Rattle.sut_readback.proofs.read.read_table.Goals as goal

pub returns-in-Err-read_all : goal.returns-in-Err-read_all
returns-in-Err-read_all c lack =
    let lines = c.args.records.now in
    sym (table-fault c.args.p.now lines c.in-Err-read_all.fault
    (ap (λ s. read_lines (table_line c.args.p.now) 2 s lines) (sym c.in-Ok.ensures) ∙ c.in-Err-read_all.ensures.read lack))

pub returns-in-Some : goal.returns-in-Some
returns-in-Some c lack =
    let lines = c.args.records.now in
    sym (table-short c.args.p.now lines c.read_all.new.reading c.in-Some.field-0
    (ap (λ s. read_lines (table_line c.args.p.now) 2 s lines) (sym c.in-Ok.ensures) ∙ c.in-Ok-read_all.ensures.read tt)
    (sym c.next.ensures ∙ c.in-Some.is)
    ∙ ap (λ n. Err (record { line = n; cause = fault.Short })) (sym c.in-Ok-read_all.ensures.end))

pub returns-in-None : goal.returns-in-None
returns-in-None c lack =
    let lines = c.args.records.now in
    sym (table-whole c.args.p.now lines c.read_all.new.reading
    (ap (λ s. read_lines (table_line c.args.p.now) 2 s lines) (sym c.in-Ok.ensures) ∙ c.in-Ok-read_all.ensures.read tt)
    (none-left c.read_all.new.reading.coming (sym c.next.ensures ∙ c.in-None.is))
    ∙ ap (λ t. Ok t) (sym c.into_table.ensures))
