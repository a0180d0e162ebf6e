use Rattle.std.proofs.Common.{◌∙◌, sym}
use Rattle.sut_tables.proofs.Sides.{inputs-added, output-made}
use Rattle.sut_laws.proofs.balances.industry_balances.Goals as goal

pub returns : goal.returns
returns c = λ t meets j. output-made t j ∙ meets.industries j ∙ sym (inputs-added t j)
