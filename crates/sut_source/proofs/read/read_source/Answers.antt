use Rattle.std.proofs.Common.{◌∙◌, All, ap, sym}
use Rattle.sut_records.specs.RecordList.{records_of}
use Rattle.sut_tables.specs.ProblemFacts.{ProblemFacts}
use Rattle.sut_source.specs.SourceFile.{source_in, under_header}
use Rattle.sut_source.specs.SourceText.{HasGrade}
use Rattle.sut_source.proofs.Graded.{at-answer, source-graded}
use Rattle.sut_source.proofs.SourceLemmas.{file-fault, file-read}
use Rattle.sut_source.proofs.read.read_source.Goals as goal

pub returns-in-Ok-clause-value : goal.returns-in-Ok-clause-value
returns-in-Ok-clause-value c lack =
    file-read c.args.s.now c.args.classes (records_of c.args.bytes.now) c.read_header.new.records c.read_under.result
    (ap under_header (sym c.new-records.ensures.all) ∙ c.in-Ok.ensures.value tt) (c.read_under.ensures lack)

pub returns-in-Ok-clause-graded : goal.returns-in-Ok-clause-graded
returns-in-Ok-clause-graded c =
    let records = records_of c.args.bytes.now in
    at-answer (λ (p : ProblemFacts). All (HasGrade c.args.s.now) p.rows) c.read_under.result (source_in c.args.s.now c.args.classes records)
    (λ lack. file-read c.args.s.now c.args.classes records c.read_header.new.records c.read_under.result
    (ap under_header (sym c.new-records.ensures.all) ∙ c.in-Ok.ensures.value tt) (c.read_under.ensures lack)) (source-graded c.args.s.now c.args.classes records)

pub returns-in-Err-clause-value : goal.returns-in-Err-clause-value
returns-in-Err-clause-value c lack =
    file-fault c.args.s.now c.args.classes (records_of c.args.bytes.now) c.in-Err.fault
    (ap under_header (sym c.new-records.ensures.all) ∙ c.in-Err.ensures.value lack)
