use Rattle.std.proofs.Common.{◌≡◌, pos, ◌==◌, if◌then◌else◌, arith}
use Rattle.std.proofs.lemmas.Int.{ints, to_z-of_z}
use mir.Syntax.{w64}
use Rattle.flow_check.proofs.checks.with_arc.Goals as goal

pub returns : goal.returns
returns c =
    let entering : c.share-entering.result ≡ (if c.args.head == c.args.node then c.args.x else pos 0) = rw (to_z-of_z w64 c.args.x c.ranges.x) at c.share-entering.ensures.value in
    let leaving : c.share-leaving.result ≡ (if c.args.tail == c.args.node then c.args.x else pos 0) = rw (to_z-of_z w64 c.args.x c.ranges.x) at c.share-leaving.ensures.value in
    rw (← entering, ← leaving) (omega (arith, ints, c.share-entering.ensures.small, c.share-leaving.ensures.small))
