use Rattle.std.proofs.Common.{◌≡◌, ◌∙◌, arith}
use Rattle.sut_classes.specs.ClassText.{plain_line}
use Rattle.sut_classes.specs.Places.{codes_of}
use Rattle.sut_classes.proofs.PrintLemmas.{code-at, got, printed-all, printed-more}
use Rattle.sut_classes.proofs.print.put_codes.Goals as goal

pub loop-place-preserved : goal.loop-place-preserved
loop-place-preserved c =
    let codes = codes_of c.args.classes.now c.args.axis in
    let at = got codes c.loop-place.place (omega arith) in
    let code : c.code_text.result.now ≡ at.0 = c.code_text.ensures ∙ code-at c.args.classes.now c.args.axis c.loop-place.place at.0 at.1 in
    printed-more (plain_line c.args.axis) codes c.loop-place.place at.0 c.args.out.now.items c.loop-place.out.items c.put_line.new.out.items at.1 c.loop-place.invariant
    (rw (← c.axis_word.ensures, ← code) c.in_ok-put_line.ensures)

pub returns : goal.returns
returns c =
    printed-all (plain_line c.args.axis) (codes_of c.args.classes.now c.args.axis) c.loop-place.place c.args.out.now.items c.loop-place.out.items (omega arith) c.loop-place.invariant
