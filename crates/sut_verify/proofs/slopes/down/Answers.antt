use Rattle.std.proofs.Common.{◌≡◌, ◌≤ℤ◌, to_z, of_z, subst}
use mir.Syntax.{w64, w128}
use Rattle.std.specs.Prelude.{◌<ℤ◌}
use Rattle.sut_cert.specs.Certificates.{slope_down}
use Rattle.sut_verify.proofs.SlopeSigns.{bound-is, difference, down-is, down-none, down-some, le-false, le-true, narrow-is}
use Rattle.std.proofs.lemmas.Int.{to_z-of_z}
use Rattle.sut_verify.proofs.slopes.down.Goals as goal

pub returns-then-rise-slope : goal.returns-then-rise-slope
returns-then-rise-slope c =
    let s = difference c.term.result c.term-2.result in
    let slope : s ≡ slope_down c.args.row.now c.args.x = down-is c.args.row.now c.args.x c.term.result c.term-2.result c.requires c.term.ensures c.term-2.ensures c.term.type_inv c.term-2.type_inv in
    let rise : to_z w128 (of_z w128 c.args.rise) ≡ c.args.rise = to_z-of_z w128 c.args.rise c.ranges.rise in
    down-none c.args.measure c.args.row.now c.args.x c.args.rise s slope (subst (λ z. s ≤ℤ z) rise (le-true _ _ c.if-rise-slope.true))

pub returns : goal.returns
returns c =
    let s = difference c.term.result c.term-2.result in
    let slope : s ≡ slope_down c.args.row.now c.args.x = down-is c.args.row.now c.args.x c.term.result c.term-2.result c.requires c.term.ensures c.term-2.ensures c.term.type_inv c.term-2.type_inv in
    let rise : to_z w128 (of_z w128 c.args.rise) ≡ c.args.rise = to_z-of_z w128 c.args.rise c.ranges.rise in
    let lower : to_z w64 (of_z w64 c.lower.result) ≡ c.args.row.now.lower = bound-is c.lower.result c.args.row.now.lower c.lower.ensures c.lower.type_inv in
    let above : c.args.row.now.lower <ℤ c.args.x = subst (λ z. z <ℤ c.args.x) lower (subst (λ z. to_z w64 (of_z w64 c.lower.result) <ℤ z) (narrow-is c.args.x c.requires) (le-false _ _ c.if-lower-x.false)) in
    down-some c.args.measure c.args.row.now c.args.x c.args.rise s (to_z w128 (of_z w128 c.args.rise)) slope rise above (subst (λ z. z <ℤ s) rise (le-false _ _ c.if-rise-slope.false))
