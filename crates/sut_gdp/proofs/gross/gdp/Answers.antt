use Rattle.std.proofs.Common.{◌∙◌, ◌^◌, ap, sym, subst, refl, ◌≡◌, ◌+ℤ◌, ◌-ℤ◌}
use Rattle.std.proofs.lemmas.List.{take_all}
use Rattle.sut_tables.specs.Gdp.{expenditure, income, production}
use Rattle.sut_tables.proofs.OneGdp.{expenditure-income, production-income}
use Rattle.sut_gdp.specs.declared.parts.Parts.{Parts}
use Rattle.sut_gdp.specs.Parts.{AreUpTo, parts_of}
use Rattle.sut_gdp.proofs.PartSums.{parts-small, parts-small_before, parts-step, wide-is}
use Rattle.sut_gdp.proofs.gross.gdp.Goals as goal

pub add-requires-clause-parts : goal.add-requires-clause-parts
add-requires-clause-parts c =
    let hs = c.cells-held-items.result.now in
    subst (AreUpTo (2 ^ 125)) (sym c.loop-held.invariant) (parts-small_before hs c.loop-held.held-index c.cells-held-items.ensures.in_range c.cells-held-items.type_inv.0)

pub loop-held-preserved : goal.loop-held-preserved
loop-held-preserved c =
    let hs = c.cells-held-items.result.now in
    let i = c.loop-held.held-index in
    parts-step hs i _ c.loop-held-test.true c.loop-held.parts c.add.new.self _ _ refl (wide-is _ c.from.result (c.cells-held-items.ensures.in_range i _ c.loop-held-test.true) c.from.ensures) c.loop-held.invariant c.add.ensures

pub measured-requires : goal.measured-requires
measured-requires c =
    let hs = c.cells-held-items.result.now in
    subst (AreUpTo (2 ^ 125)) (sym c.loop-held.invariant) (parts-small_before hs c.loop-held.held-index c.cells-held-items.ensures.in_range c.cells-held-items.type_inv.0)

pub returns-clause-one : goal.returns-clause-one
returns-clause-one c = λ ok.
    let t = c.args.t.now in
    let whole = c.loop-held.invariant ∙ ap parts_of (take_all c.loop-held.held-index c.cells-held-items.result.now c.loop-held-test.false ∙ c.cells-held-items.ensures.all) in
    let made : c.measured.result.production ≡ production t = c.measured.ensures.production ∙ ap (λ (p : Parts). p.outputs -ℤ p.inputs +ℤ p.taxes) whole in
    let earned : c.measured.result.income ≡ income t = c.measured.ensures.income ∙ ap (λ (p : Parts). p.added +ℤ p.taxes) whole in
    let spent : c.measured.result.expenditure ≡ expenditure t = c.measured.ensures.expenditure ∙ ap (λ (p : Parts). p.final_uses -ℤ p.imports) whole in
    (made ∙ production-income t ok ∙ sym earned, spent ∙ expenditure-income t ok ∙ sym earned)
