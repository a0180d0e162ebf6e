use Rattle.std.proofs.Common.{◌∙◌, sym}
use Rattle.csv.specs.Records.{fields_of}
use Rattle.sut_cert.proofs.LineLemmas.{cut-below, cut-csv, cut-dead, cut-good, cut-name}
use Rattle.sut_cert.proofs.read.judge_account.Goals as goal

pub returns-then-not-has_width : goal.returns-then-not-has_width
returns-then-not-has_width c = cut-csv c.args.classes.now c.args.live.now c.args.last (fields_of c.args.row.now) (sym c.has_width.ensures ∙ c.if-not-has_width.true)

pub returns-in-Err : goal.returns-in-Err
returns-in-Err c = cut-name c.args.classes.now c.args.live.now c.args.last (fields_of c.args.row.now) c.in-Err.cause (sym c.has_width.ensures ∙ c.if-not-has_width.false) (sym c.in-Err.ensures)

pub returns-then-not-is_among : goal.returns-then-not-is_among
returns-then-not-is_among c = cut-dead c.args.classes.now c.args.live.now c.args.last (fields_of c.args.row.now) c.in-Ok.account (sym c.has_width.ensures ∙ c.if-not-has_width.false) (sym c.in-Ok.ensures) (sym c.is_among.ensures ∙ c.if-not-is_among.true)

pub returns-then-not-is_above : goal.returns-then-not-is_above
returns-then-not-is_above c = cut-below c.args.classes.now c.args.live.now c.args.last (fields_of c.args.row.now) c.in-Ok.account (sym c.has_width.ensures ∙ c.if-not-has_width.false) (sym c.in-Ok.ensures) (sym c.is_among.ensures ∙ c.if-not-is_among.false) (sym c.is_above.ensures ∙ c.if-not-is_above.true)

pub returns : goal.returns
returns c = cut-good c.args.classes.now c.args.live.now c.args.last (fields_of c.args.row.now) c.in-Ok.account (sym c.has_width.ensures ∙ c.if-not-has_width.false) (sym c.in-Ok.ensures) (sym c.is_among.ensures ∙ c.if-not-is_among.false) (sym c.is_above.ensures ∙ c.if-not-is_above.false)
