use Rattle.std.proofs.Common.{◌≡◌, ◌++◌, ◌∙◌, ap, sym, map, append-nil}
use Rattle.std.specs.List.{flat_map}
use Rattle.sut_text.specs.Text.{line_text}
use Rattle.sut_source.specs.SourceFile.{source_of}
use Rattle.sut_source.specs.SourceText.{row_line, source_text}
use Rattle.sut_source.proofs.PrintLemmas.{text-more, text-started}
use Rattle.sut_source.proofs.ReadBack.{printed-source}
use Rattle.sut_source.proofs.print.print_source.Goals as goal

pub loop-row-init : goal.loop-row-init
loop-row-init c =
    let p = c.args.p.now in
    ap (λ rows. c.put_bytes.new.out.items ++ flat_map line_text (map (row_line c.args.s.now p.classes) rows)) (c.into_iter-row-iterator.ensures.into_iter_gives ∙ c.rows-row-items.ensures)
    ∙ text-started c.args.s.now p.classes p.rows c.put_bytes.new.out.items (rw c.new-out.ensures.items at c.in_ok-put_bytes.ensures)

pub loop-row-preserved : goal.loop-row-preserved
loop-row-preserved c =
    let p = c.args.p.now in
    text-more c.args.s.now p.classes c.in-Some.row.now c.next.new.self c.loop-row.row-iterator c.loop-row.out.items c.put_row.new.out.items (source_text c.args.s.now p) c.in-Some.ensures.steps
    (c.in_ok-put_row.ensures ∙ ap (λ cs. c.loop-row.out.items ++ line_text (row_line c.args.s.now cs c.in-Some.row.now)) c.classes-in-loop-row.ensures) c.loop-row.invariant

pub returns : goal.returns
returns c =
    let s = c.args.s.now in
    let p = c.args.p.now in
    let text : c.loop-row.out.items ≡ source_text s p =
    sym (append-nil c.loop-row.out.items) ∙ ap (λ rows. c.loop-row.out.items ++ flat_map line_text (map (row_line s p.classes) rows)) (sym c.in-None.ensures.steps.0) ∙ c.loop-row.invariant in
    record {
      text = text;
      reads_back = ap (source_of s p.classes) text ∙ printed-source s p c.kept.ensures c.kept-2.ensures (rw c.classes.ensures at c.kept-3.ensures) c.requires;
    }
