use Rattle.sut_generate.proofs.Lines.{classes-printed}
use Rattle.sut_generate.proofs.classes.classes_text.Goals as goal

pub returns : goal.returns
returns c = classes-printed c.args.products c.args.industries _ _ _ _ _ _ c.new-out.ensures.items c.in_ok-put_head.ensures c.in_ok-put_products.ensures c.in_ok-put_industries.ensures c.in_ok-put_finals.ensures c.in_ok-put_end.ensures
