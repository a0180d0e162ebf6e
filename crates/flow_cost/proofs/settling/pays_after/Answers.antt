use Rattle.std.proofs.lemmas.Int.{to_z-of_z}
use mir.Syntax.{w64, w128}
use mir.Val.{SFits}
use Rattle.flow_cost.proofs.Paying.{pays_from, stops_from, in_limit}
use Rattle.flow_cost.proofs.settling.pays_after.Goals as goal

pub place-y-requires : goal.place-y-requires
place-y-requires g c =
    rw (to_z-of_z w64 c.args.x c.ranges.x, to_z-of_z w64 c.args.by c.ranges.by)
    (in_limit _ _ _ (g.met.C.Cost.lawful c.args.cost.now) c.requires.from)

pub pays-requires-clause-from : goal.pays-requires-clause-from
pays-requires-clause-from g c =
    let fits : SFits w64 c.place-y.result = record { sfits = c.place-y.type_inv } in
    let y = rw (to_z-of_z w64 c.args.x c.ranges.x, to_z-of_z w64 c.args.by c.ranges.by) at c.place-y.ensures in
    rw (to_z-of_z w64 c.place-y.result fits, y) c.requires.from

pub pays-requires-clause-to : goal.pays-requires-clause-to
pays-requires-clause-to g c =
    let fits : SFits w64 c.place-y.result = record { sfits = c.place-y.type_inv } in
    let y = rw (to_z-of_z w64 c.args.x c.ranges.x, to_z-of_z w64 c.args.by c.ranges.by) at c.place-y.ensures in
    rw (to_z-of_z w64 c.place-y.result fits, to_z-of_z w64 c.args.by c.ranges.by, y) c.requires.to

pub returns-clause-pays : goal.returns-clause-pays
returns-clause-pays g c =
    let fits : SFits w64 c.place-y.result = record { sfits = c.place-y.type_inv } in
    let y = rw (to_z-of_z w64 c.args.x c.ranges.x, to_z-of_z w64 c.args.by c.ranges.by) at c.place-y.ensures in
    pays_from _ _ _ _ _ (rw (to_z-of_z w64 c.place-y.result fits, to_z-of_z w64 c.args.by c.ranges.by, to_z-of_z w128 c.args.slope c.ranges.slope, y) at c.pays.ensures)

pub returns-clause-stops : goal.returns-clause-stops
returns-clause-stops g c =
    let fits : SFits w64 c.place-y.result = record { sfits = c.place-y.type_inv } in
    let y = rw (to_z-of_z w64 c.args.x c.ranges.x, to_z-of_z w64 c.args.by c.ranges.by) at c.place-y.ensures in
    stops_from _ _ _ _ _ (rw (to_z-of_z w64 c.place-y.result fits, to_z-of_z w64 c.args.by c.ranges.by, to_z-of_z w128 c.args.slope c.ranges.slope, y) at c.pays.ensures)
