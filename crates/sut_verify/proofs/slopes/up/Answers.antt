use Rattle.std.proofs.Common.{◌≡◌, ◌≤ℤ◌, to_z, of_z, subst}
use mir.Syntax.{w64, w128}
use Rattle.std.specs.Prelude.{◌<ℤ◌}
use Rattle.sut_cert.specs.Certificates.{slope_up}
use Rattle.sut_verify.proofs.SlopeSigns.{bound-is, difference, le-false, le-true, narrow-is, up-is, up-none, up-some}
use Rattle.std.proofs.lemmas.Int.{to_z-of_z}
use Rattle.sut_verify.proofs.slopes.up.Goals as goal

pub returns-then-slope-rise : goal.returns-then-slope-rise
returns-then-slope-rise c =
    let s = difference c.term.result c.term-2.result in
    let slope : s ≡ slope_up c.args.row.now c.args.x = up-is c.args.row.now c.args.x c.term.result c.term-2.result c.requires c.term.ensures c.term-2.ensures c.term.type_inv c.term-2.type_inv in
    let rise : to_z w128 (of_z w128 c.args.rise) ≡ c.args.rise = to_z-of_z w128 c.args.rise c.ranges.rise in
    up-none c.args.measure c.args.row.now c.args.x c.args.rise s slope (subst (λ z. z ≤ℤ s) rise (le-true _ _ c.if-slope-rise.true))

pub returns : goal.returns
returns c =
    let s = difference c.term.result c.term-2.result in
    let slope : s ≡ slope_up c.args.row.now c.args.x = up-is c.args.row.now c.args.x c.term.result c.term-2.result c.requires c.term.ensures c.term-2.ensures c.term.type_inv c.term-2.type_inv in
    let rise : to_z w128 (of_z w128 c.args.rise) ≡ c.args.rise = to_z-of_z w128 c.args.rise c.ranges.rise in
    let upper : to_z w64 (of_z w64 c.upper.result) ≡ c.args.row.now.upper = bound-is c.upper.result c.args.row.now.upper c.upper.ensures c.upper.type_inv in
    let below : c.args.x <ℤ c.args.row.now.upper = subst (λ z. c.args.x <ℤ z) upper (subst (λ z. z <ℤ to_z w64 (of_z w64 c.upper.result)) (narrow-is c.args.x c.requires) (le-false _ _ c.if-x-upper.false)) in
    up-some c.args.measure c.args.row.now c.args.x c.args.rise s (to_z w128 (of_z w128 c.args.rise)) slope rise below (subst (λ z. s <ℤ z) rise (le-false _ _ c.if-slope-rise.false))
