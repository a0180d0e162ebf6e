use Rattle.std.proofs.Common.{◌∙◌}
use Rattle.sut_asks.proofs.MeasureSearch.{live-searched}
use Rattle.sut_asks.proofs.read.is_asked.Goals as goal

pub returns : goal.returns
returns c =
    let facts = c.binary_search.ensures in
    c.is_ok.ensures.value ∙ live-searched c.args.p.now c.args.measures.now c.requires c.args.m c.binary_search.result facts.bound facts.position
