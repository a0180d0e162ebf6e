use Rattle.std.proofs.Common.{◌≡◌, Some, slice_get, arith}
use Rattle.std.proofs.lemmas.Int.{to_z-of_z}
use Rattle.std.proofs.lemmas.Option.{slice_get_read}
use mir.Syntax.{w64}
use Rattle.flow_search.proofs.Followed.{entered_from}
use Rattle.flow_search.proofs.following.before.Goals as goal

pub returns-clause-step : goal.returns-clause-step
returns-clause-step g c =
    let i : slice_get c.args.room.now.by.items c.args.n.0 ≡ Some c.index.result.now =
    slice_get_read c.args.room.now.by.items c.args.room.now.by.len c.args.n.0 c.index.result.now c.args.room.now.by.ok.0 (omega (arith, c.requires.to, c.requires.room.by)) c.index.ensures in
    let j = c.in-Some.is in
    let read : slice_get c.args.room.now.by.items c.args.n.0 ≡ Some (Some c.in-Some.a) = cc in
    entered_from g.C.Cost.value_at c.args.step c.args.s.now c.args.room.now.by.items c.in-Some.a.0 c.args.n.0 c.left_by.result read (rw (to_z-of_z w64 c.args.step c.ranges.step) at c.left_by.ensures.tight)
