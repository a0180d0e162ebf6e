use Rattle.std.proofs.Common.{ap, subst, sym, ◌∙◌, ◌^◌, ◌+ℤ◌, ℤ}
use mir.Syntax.{w128}
use mir.Val.{SFits}
use Rattle.std.proofs.lemmas.Int.{to_z-of_z}
use Rattle.sut_tables.specs.CellSums.{IsUpTo}
use Rattle.sut_tables.proofs.SumMaps.{sum-is}
use Rattle.sut_gdp.specs.declared.parts.Parts.{Parts}
use Rattle.sut_gdp.specs.Parts.{bought_with}
use Rattle.sut_gdp.proofs.PartSums.{bought-taxes}
use Rattle.sut_gdp.proofs.parts.Parts.add.Goals as goal

pub returns-in-Make : goal.returns-in-Make
returns-in-Make c =
    let p = c.args.self.now in
    rw c.in-Make.is (ap (λ z. record p { outputs = z }) (sum-is p.outputs c.args.x c.requires.parts.outputs c.requires.number))

pub returns-in-Import : goal.returns-in-Import
returns-in-Import c =
    let p = c.args.self.now in
    rw c.in-Import.is (ap (λ z. record p { imports = z }) (sum-is p.imports c.args.x c.requires.parts.imports c.requires.number))

pub returns-in-Added : goal.returns-in-Added
returns-in-Added c =
    let p = c.args.self.now in
    rw c.in-Added.is (ap (λ z. record p { added = z }) (sum-is p.added c.args.x c.requires.parts.added c.requires.number))

pub returns-in-Tax : goal.returns-in-Tax
returns-in-Tax c =
    let p = c.args.self.now in
    let b = c.buy.new.self in
    let fits : SFits w128 c.args.x = c.ranges.x in
    let bought = c.buy.ensures ∙ ap (bought_with p c.in-Tax.q) (to_z-of_z w128 c.args.x fits) in
    let stays = ap (λ (b : Parts). b.taxes) bought ∙ bought-taxes p c.in-Tax.q c.args.x in
    let sum = sum-is b.taxes c.args.x (subst (IsUpTo (2 ^ 125)) (sym stays) c.requires.parts.taxes) c.requires.number in
    rw c.in-Tax.is (ap {A = ℤ} {B = Parts} (λ z. record b { taxes = z }) (sum ∙ ap (λ z. z +ℤ c.args.x) stays) ∙ ap {A = Parts} {B = Parts} (λ b. record b { taxes = p.taxes +ℤ c.args.x }) bought)
