use Rattle.std.proofs.Common.{ap}
use Rattle.sut_tables.proofs.SumMaps.{sum-is}
use Rattle.sut_gdp.proofs.parts.Parts.buy.Goals as goal

pub returns-in-Industry : goal.returns-in-Industry
returns-in-Industry c =
    let p = c.args.self.now in
    rw c.in-Industry.is (ap (λ z. record p { inputs = z }) (sum-is p.inputs c.args.x c.requires.parts.inputs c.requires.number))

pub returns-in-Final : goal.returns-in-Final
returns-in-Final c =
    let p = c.args.self.now in
    rw c.in-Final.is (ap (λ z. record p { final_uses = z }) (sum-is p.final_uses c.args.x c.requires.parts.final_uses c.requires.number))
