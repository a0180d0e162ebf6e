use Rattle.std.proofs.Common.{ℕ, ◌*◌, ◌^◌, ◌<◌, pos, get_or}
use Rattle.flow_cost.specs.Cost.{IsWithin}
use Rattle.flow_solve.proofs.nearing.are_near.Given as goal

abbrev pub invariant-loop-n : goal.invariant-loop-n
invariant-loop-n g l = (k : ℕ) → k < l.n → IsWithin (pos (2 * 10 ^ 22)) (get_or l.s.potentials k (pos 0))
