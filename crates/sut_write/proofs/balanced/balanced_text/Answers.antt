use Rattle.std.proofs.Common.{◌≡◌, ◌≤◌, ◌∙◌, ap, length, subst, sym}
use Rattle.sut_readback.specs.BalancedFile.{balanced_of}
use Rattle.sut_readback.specs.BalancedText.{balanced_text}
use Rattle.sut_write.proofs.Printed.{table-printed}
use Rattle.sut_write.proofs.balanced.balanced_text.Goals as goal

pub returns-clause-text : goal.returns-clause-text
returns-clause-text c =
    table-printed c.args.p.now c.args.t.now c.deref.result.now c.new-out.result.items c.put_bytes.new.out.items c.put_value_lines.new.out.items
    (c.deref.ensures.value ∙ c.in_ok-measures.ensures) c.new-out.ensures.items c.in_ok-put_bytes.ensures c.in_ok-put_value_lines.ensures

pub returns-clause-reads_back : goal.returns-clause-reads_back
returns-clause-reads_back c =
    let text : c.put_value_lines.new.out.items ≡ balanced_text c.args.p.now c.args.t.now =
    table-printed c.args.p.now c.args.t.now c.deref.result.now c.new-out.result.items c.put_bytes.new.out.items c.put_value_lines.new.out.items
    (c.deref.ensures.value ∙ c.in_ok-measures.ensures) c.new-out.ensures.items c.in_ok-put_bytes.ensures c.in_ok-put_value_lines.ensures in
    ap (balanced_of c.args.p.now) text ∙ c.reads_back.ensures

pub returns-clause-short : goal.returns-clause-short
returns-clause-short c =
    let text : c.put_value_lines.new.out.items ≡ balanced_text c.args.p.now c.args.t.now =
    table-printed c.args.p.now c.args.t.now c.deref.result.now c.new-out.result.items c.put_bytes.new.out.items c.put_value_lines.new.out.items
    (c.deref.ensures.value ∙ c.in_ok-measures.ensures) c.new-out.ensures.items c.in_ok-put_bytes.ensures c.in_ok-put_value_lines.ensures in
    subst (λ bytes. length bytes ≤ 67108864) (sym text) c.balanced_short.ensures
