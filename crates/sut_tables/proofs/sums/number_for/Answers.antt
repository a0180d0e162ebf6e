use Rattle.std.proofs.Common.{pos, sym, ap, ◌∙◌, rules, arith, unwrap_or}
use Rattle.sut_tables.proofs.SumMaps.{lookup-kept}
use Rattle.sut_tables.proofs.sums.number_for.Goals as goal

pub returns : goal.returns
returns c = search rules ∙ c.unwrap_or.ensures ∙ ap (λ o. unwrap_or o (pos 0)) (c.copied.ensures ∙ c.get.ensures.value ∙ lookup-kept c.args.s c.args.sums.now.entries)
