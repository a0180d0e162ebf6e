use Rattle.std.proofs.Common.{◌≤ℤ◌, ◌∷◌, ◌++◌, [], map, ◌∙◌, ap, arith, to_z, of_z}
use mir.Syntax.{w64}
use Rattle.std.proofs.lemmas.Int.{ints}
use Rattle.std.proofs.lemmas.Option.{MatchOption-at_none}
use Rattle.sut_classes.specs.ClassLists.{ClassLists}
use Rattle.sut_classes.specs.Groups.{groups_of}
use Rattle.sut_measures.specs.Ends.{left, entered}
use Rattle.sut_network.specs.Networks.{bounds_in}
use Rattle.sut_network.proofs.Grown.{no-fault, begun-more, bounds-held, bounds-more}
use Rattle.sut_network.proofs.networks.add_arc.Goals as goal

pub unreachable-requires : goal.unreachable-requires
unreachable-requires c =
    let from = c.ends-from.ensures.from ∙ ap (λ (cs : ClassLists). left (groups_of cs) c.args.m) c.classes.ensures in
    let to = c.ends-from.ensures.to ∙ ap (λ (cs : ClassLists). entered (groups_of cs) c.args.m) c.classes.ensures in
    let b = c.requires.bounds in
    let lo = to_z w64 (of_z w64 c.args.lo) in
    let hi = to_z w64 (of_z w64 c.args.hi) in
    let ordered : lo ≤ℤ hi = omega (arith, ints, b.low, b.ordered, b.high) in
    c.in_default.not-NoMemory
    (MatchOption-at_none _ _
    (no-fault c.args.p.now c.args.graph.now c.args.m c.ends-from.result.0 c.ends-from.result.1 lo hi c.requires.begun c.requires.next from to ordered c.requires.room)
    c.in-Err.ensures.fault)

pub returns-in-Ok-clause-begun : goal.returns-in-Ok-clause-begun
returns-in-Ok-clause-begun c =
    let from = c.ends-from.ensures.from ∙ ap (λ (cs : ClassLists). left (groups_of cs) c.args.m) c.classes.ensures in
    let to = c.ends-from.ensures.to ∙ ap (λ (cs : ClassLists). entered (groups_of cs) c.args.m) c.classes.ensures in
    begun-more c.args.p.now c.args.graph.now c.args.m c.ends-from.result.0 c.ends-from.result.1 _ _ c.requires.begun c.requires.next from to c.add_arc.new.self c.in-Ok.ensures.added

pub returns-in-Ok-clause-bounds : goal.returns-in-Ok-clause-bounds
returns-in-Ok-clause-bounds c =
    let from = c.ends-from.ensures.from ∙ ap (λ (cs : ClassLists). left (groups_of cs) c.args.m) c.classes.ensures in
    let to = c.ends-from.ensures.to ∙ ap (λ (cs : ClassLists). entered (groups_of cs) c.args.m) c.classes.ensures in
    let lo = to_z w64 (of_z w64 c.args.lo) in
    let hi = to_z w64 (of_z w64 c.args.hi) in
    let before = map bounds_in c.args.graph.now.arcs in
    let held = bounds-held c.args.lo c.args.hi c.requires.bounds in
    bounds-more c.args.p.now c.args.graph.now c.args.m c.ends-from.result.0 c.ends-from.result.1 lo hi c.requires.begun c.requires.next from to c.add_arc.new.self c.in-Ok.ensures.added
    ∙ ap (λ z. before ++ (z, hi) ∷ []) held.0
    ∙ ap (λ z. before ++ (c.args.lo, z) ∷ []) held.1
