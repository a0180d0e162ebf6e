use Rattle.std.proofs.Common.{◌≡◌, map, take}
use Rattle.sut_classes.proofs.codes.Codes.copy.Given as goal

abbrev pub invariant-loop-code : goal.invariant-loop-code
invariant-loop-code l = l.codes ≡ map (λ v. v.items) (take l.code-index l.code-items)
