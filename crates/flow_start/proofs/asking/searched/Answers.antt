use Rattle.std.proofs.Common.{rules, arith}
use Rattle.std.proofs.lemmas.Int.{ints, to_z-of_z}
use mir.Syntax.{w64}
use mir.Val.{SFits}
use Rattle.flow_start.proofs.asking.searched.Goals as goal

pub settle-requires-clause-high : goal.settle-requires-clause-high
settle-requires-clause-high g c =
    let fx : SFits w64 c.nearest.result = search rules in
    let fh : SFits w64 c.nearest-hi.result = search rules in
    let fl : SFits w64 c.nearest-lo.result = search rules in
    let fs : SFits w64 c.span_of-span.result = search rules in
    let ex = to_z-of_z w64 c.nearest.result fx in
    let eh = to_z-of_z w64 c.nearest-hi.result fh in
    let el = to_z-of_z w64 c.nearest-lo.result fl in
    let es = to_z-of_z w64 c.span_of-span.result fs in
    (omega (arith, ints), record { low = omega (arith, ints); high = omega (arith, ints) })
