use Rattle.sut_generate.proofs.Lines.{source-printed}
use Rattle.sut_generate.proofs.source.source_text.Goals as goal

pub returns : goal.returns
returns c = source-printed c.args.seed c.args.products c.args.industries _ _ _ _ _ c.new-out.ensures.items c.in_ok-put_header.ensures c.in_ok-put_products.ensures.lines c.in_ok-put_service.ensures c.in_ok-put_added.ensures
