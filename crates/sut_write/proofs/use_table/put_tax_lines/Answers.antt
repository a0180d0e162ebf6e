use Rattle.std.proofs.Common.{◌≡◌, ◌∙◌, ap, arith, length}
use Rattle.sut_classes.specs.Places.{codes_of}
use Rattle.sut_classes.specs.declared.ids.Axis.TheVariants as axis
use Rattle.sut_text.specs.Text.{line_text}
use Rattle.sut_write.specs.Use.{use_line}
use Rattle.sut_write.specs.declared.use_table.UseLine.TheVariants as line
use Rattle.sut_write.specs.Places.{below}
use Rattle.sut_write.proofs.Below.{printed-all, printed-more}
use Rattle.sut_write.proofs.UseLines.{lines-over}
use Rattle.sut_write.proofs.use_table.put_tax_lines.Goals as goal

pub loop-place-preserved : goal.loop-place-preserved
loop-place-preserved c =
    let cs = c.args.p.now.classes in
    let t = c.args.t.now in
    printed-more (λ n. line_text (use_line cs t (line.Tax c.args.i (record { 0 = n })))) c.loop-place.place c.args.out.now.items c.loop-place.out.items c.put_line.new.out.items c.loop-place.invariant c.in_ok-put_line.ensures

pub returns : goal.returns
returns c =
    let cs = c.args.p.now.classes in
    let t = c.args.t.now in
    let count : c.count-place-end.result ≡ length cs.taxes = c.count-place-end.ensures.count ∙ ap (λ cs. length (codes_of cs axis.Tax)) c.classes.ensures in
    printed-all (λ n. line_text (use_line cs t (line.Tax c.args.i (record { 0 = n })))) c.loop-place.place (length cs.taxes) c.args.out.now.items c.loop-place.out.items _ c.loop-place.invariant (omega (arith, count)) (lines-over (use_line cs t) (line.Tax c.args.i) (λ n. record { 0 = n }) (below (length cs.taxes)))
