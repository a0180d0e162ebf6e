use Rattle.std.proofs.Common.{◌≡◌, ◌∙◌, ◌<◌, sym, subst, arith, below_more}
use Rattle.sut_tables.specs.Breaks.{broken_product}
use Rattle.sut_tables.proofs.FirstOf.{first-here, first-nothing, first-nowhere}
use Rattle.sut_tables.proofs.breaks.first_open_product.Goals as goal

pub returns-in-Some : goal.returns-in-Some
returns-in-Some c = first-here (broken_product c.args.t.now) c.args.count c.loop-place.place c.in-Some.found c.loop-place-test.true c.loop-place.invariant (sym c.in-Some.is ∙ c.open_product.ensures)

pub loop-place-preserved : goal.loop-place-preserved
loop-place-preserved c = below_more _ _ c.loop-place.invariant (first-nothing (broken_product c.args.t.now c.loop-place.place) (sym c.in_default.is ∙ c.open_product.ensures))

pub returns : goal.returns
returns c = first-nowhere (broken_product c.args.t.now) c.args.count (λ j h. c.loop-place.invariant j (omega (arith, h)))
