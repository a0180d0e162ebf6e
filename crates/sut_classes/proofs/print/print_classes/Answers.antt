use Rattle.std.proofs.Common.{◌≡◌, ◌∙◌, ◌++◌, ap, []}
use Rattle.sut_text.specs.Text.{line_text}
use Rattle.sut_classes.specs.ClassText.{class_header, classes_text}
use Rattle.sut_classes.proofs.PrintLemmas.{text-printed}
use Rattle.sut_classes.proofs.ReadBack.{printed-classes}
use Rattle.sut_classes.proofs.print.print_classes.Goals as goal

pub returns : goal.returns
returns c =
    let text : c.put_codes-6.new.out.items ≡ classes_text c.args.c.now = text-printed c.args.c.now _ _ _ _ _ _ _ _ _
    (c.in_ok-put_line.ensures ∙ ap (λ t. t ++ line_text class_header) c.new-out.ensures.items) c.in_ok-put_codes.ensures c.in_ok-put_codes-2.ensures c.in_ok-put_products.ensures
    c.in_ok-put_codes-3.ensures c.in_ok-put_industries.ensures c.in_ok-put_codes-4.ensures c.in_ok-put_codes-5.ensures c.in_ok-put_codes-6.ensures in
    record {
      text = text;
      reads_back = rw text (printed-classes c.args.c.now c.kept.ensures);
    }
