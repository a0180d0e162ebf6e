use Rattle.std.proofs.Common.{◌≡◌, to_z, of_z}
use mir.Syntax.{w128}
use Rattle.std.proofs.lemmas.Int.{to_z-of_z}
use Rattle.sut_status.proofs.faults.put_wrong_total.Goals as goal

pub returns-clause-done : goal.returns-clause-done
returns-clause-done c =
    let printed : to_z w128 (of_z w128 c.args.printed) ≡ c.args.printed = to_z-of_z w128 c.args.printed c.ranges.printed in
    let sum : to_z w128 (of_z w128 c.args.sum) ≡ c.args.sum = to_z-of_z w128 c.args.sum c.ranges.sum in
    simp (printed, sum) at c.put_words.ensures.done
