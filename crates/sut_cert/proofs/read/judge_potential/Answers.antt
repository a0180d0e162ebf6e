use Rattle.std.proofs.Common.{◌∙◌, ℤ, Result, Ok, sym, ap}
use Rattle.csv.specs.Records.{fields_of}
use Rattle.sut_records.specs.RecordList.{field}
use Rattle.sut_text.specs.Number.{whole_of}
use Rattle.sut_measures.specs.declared.accounts.Account.{Account}
use Rattle.sut_cert.specs.declared.faults.CertCause.{CertCause}
use Rattle.sut_cert.proofs.Ranges.{fits-wide, potential-read}
use Rattle.sut_cert.proofs.LineLemmas.{potential-account, potential-csv, potential-good, potential-name, potential-number}
use Rattle.sut_cert.proofs.read.judge_potential.Goals as goal

pub returns-then-not-has_width : goal.returns-then-not-has_width
returns-then-not-has_width c = potential-csv c.args.classes.now c.args.next (fields_of c.args.row.now) (sym c.has_width.ensures ∙ c.if-not-has_width.true)

pub returns-in-Err : goal.returns-in-Err
returns-in-Err c = potential-name c.args.classes.now c.args.next (fields_of c.args.row.now) c.in-Err.cause (sym c.has_width.ensures ∙ c.if-not-has_width.false) (sym c.in-Err.ensures)

pub returns-then-not-is_next : goal.returns-then-not-is_next
returns-then-not-is_next c = potential-account c.args.classes.now c.args.next (fields_of c.args.row.now) c.in-Ok.account (sym c.has_width.ensures ∙ c.if-not-has_width.false) (sym c.in-Ok.ensures) (sym c.is_next.ensures ∙ c.if-not-is_next.true)

abbrev given : Account → ℤ → Result (Account × ℤ) CertCause
given a z = Ok (a, z)

pub returns-in-Ok-line_potential : goal.returns-in-Ok-line_potential
returns-in-Ok-line_potential c =
    let read = potential-read (whole_of (field (fields_of c.args.row.now) 3)) c.in-Ok-line_potential.number (sym c.in-Ok-line_potential.ensures) in
    ap (given c.in-Ok.account) (fits-wide c.in-Ok-line_potential.number read.1)
    ∙ potential-good c.args.classes.now c.args.next (fields_of c.args.row.now) c.in-Ok.account c.in-Ok-line_potential.number (sym c.has_width.ensures ∙ c.if-not-has_width.false) (sym c.in-Ok.ensures) (sym c.is_next.ensures ∙ c.if-not-is_next.false) (sym c.in-Ok-line_potential.ensures)

pub returns-in-Err-line_potential : goal.returns-in-Err-line_potential
returns-in-Err-line_potential c = potential-number c.args.classes.now c.args.next (fields_of c.args.row.now) c.in-Ok.account c.in-Err-line_potential.cause (sym c.has_width.ensures ∙ c.if-not-has_width.false) (sym c.in-Ok.ensures) (sym c.is_next.ensures ∙ c.if-not-is_next.false) (sym c.in-Err-line_potential.ensures)
