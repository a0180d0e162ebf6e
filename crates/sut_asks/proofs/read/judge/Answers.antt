use Rattle.std.proofs.Common.{◌≡◌, ◌∙◌, true, false, arith, sym}
use Rattle.std.specs.Prelude.{nat_lt}
use Rattle.std.proofs.lemmas.Bool.Decides.{nat_tests}
use Rattle.csv.specs.Records.{fields_of}
use Rattle.sut_asks.specs.AsksFile.{ask_limit}
use Rattle.sut_asks.proofs.AskLemmas.{ask-beyond, ask-not_live, ask-short, ask-taken, ask-unnamed}
use Rattle.sut_asks.proofs.read.judge.Goals as goal

pub returns-then-not-has_four_fields : goal.returns-then-not-has_four_fields
returns-then-not-has_four_fields c =
    sym (ask-short c.args.p.now c.args.before (fields_of c.args.row.now) (sym c.has_four_fields.ensures ∙ c.if-not-has_four_fields.true))

pub returns-in-Err : goal.returns-in-Err
returns-in-Err c =
    sym (ask-unnamed c.args.p.now c.args.before (fields_of c.args.row.now) c.in-Err.cause
    (sym c.has_four_fields.ensures ∙ c.if-not-has_four_fields.false) (sym c.in-Err.ensures))

pub returns-then-not-is_asked : goal.returns-then-not-is_asked
returns-then-not-is_asked c =
    sym (ask-not_live c.args.p.now c.args.before (fields_of c.args.row.now) c.in-Ok.m
    (sym c.has_four_fields.ensures ∙ c.if-not-has_four_fields.false) (sym c.in-Ok.ensures) (sym c.is_asked.ensures ∙ c.if-not-is_asked.true))

pub returns-then-before-ge-ASK_LIMIT : goal.returns-then-before-ge-ASK_LIMIT
returns-then-before-ge-ASK_LIMIT c =
    let none : nat_lt c.args.before ask_limit ≡ false = grind (arith, nat_tests) in
    sym (ask-beyond c.args.p.now c.args.before (fields_of c.args.row.now) c.in-Ok.m
    (sym c.has_four_fields.ensures ∙ c.if-not-has_four_fields.false) (sym c.in-Ok.ensures) (sym c.is_asked.ensures ∙ c.if-not-is_asked.false) none)

pub returns : goal.returns
returns c =
    let room : nat_lt c.args.before ask_limit ≡ true = grind (arith, nat_tests) in
    sym (ask-taken c.args.p.now c.args.before (fields_of c.args.row.now) c.in-Ok.m
    (sym c.has_four_fields.ensures ∙ c.if-not-has_four_fields.false) (sym c.in-Ok.ensures) (sym c.is_asked.ensures ∙ c.if-not-is_asked.false) room)
