use Rattle.std.proofs.Common.{◌≡◌, ◌≤ℤ◌, ◌∙◌, ap, arith, to_z, of_z}
use mir.Syntax.{w64}
use Rattle.std.proofs.lemmas.Int.{ints}
use Rattle.std.proofs.lemmas.Option.{MatchOption-at_none}
use Rattle.sut_classes.specs.ClassLists.{ClassLists}
use Rattle.sut_classes.specs.Groups.{groups_of}
use Rattle.sut_measures.specs.Ends.{left, entered}
use Rattle.sut_circuit.proofs.Grown.{no-fault, begun-more}
use Rattle.sut_circuit.proofs.growing.add_arc.Goals as goal

pub unreachable-requires : goal.unreachable-requires
unreachable-requires c =
    let from = c.ends-from.ensures.from ∙ ap (λ (cs : ClassLists). left (groups_of cs) c.args.m) c.classes.ensures in
    let to = c.ends-from.ensures.to ∙ ap (λ (cs : ClassLists). entered (groups_of cs) c.args.m) c.classes.ensures in
    let b = c.bounds_of-lo.ensures.bounds in
    let lo = to_z w64 (of_z w64 c.bounds_of-lo.result.0) in
    let hi = to_z w64 (of_z w64 c.bounds_of-lo.result.1) in
    let ordered : lo ≤ℤ hi = omega (arith, ints, b.low, b.ordered, b.high) in
    c.in_default.not-NoMemory
    (MatchOption-at_none _ _
    (no-fault c.args.p.now c.args.graph.now c.args.m c.ends-from.result.0 c.ends-from.result.1 lo hi c.requires.begun c.requires.next from to ordered c.requires.room)
    c.in-Err.ensures.fault)

pub returns-in-Ok : goal.returns-in-Ok
returns-in-Ok c =
    let from = c.ends-from.ensures.from ∙ ap (λ (cs : ClassLists). left (groups_of cs) c.args.m) c.classes.ensures in
    let to = c.ends-from.ensures.to ∙ ap (λ (cs : ClassLists). entered (groups_of cs) c.args.m) c.classes.ensures in
    let b = c.bounds_of-lo.ensures.bounds in
    let lo = to_z w64 (of_z w64 c.bounds_of-lo.result.0) in
    let hi = to_z w64 (of_z w64 c.bounds_of-lo.result.1) in
    let same_lo : lo ≡ c.bounds_of-lo.result.0 = omega (arith, ints, b.low, b.ordered, b.high) in
    let same_hi : hi ≡ c.bounds_of-lo.result.1 = omega (arith, ints, b.low, b.ordered, b.high) in
    begun-more c.args.p.now c.args.graph.now c.args.m c.ends-from.result.0 c.ends-from.result.1 lo hi c.requires.begun c.requires.next from to (same_lo ∙ c.bounds_of-lo.ensures.low) (same_hi ∙ c.bounds_of-lo.ensures.high)
    c.add_arc.new.self c.in-Ok.ensures.added
