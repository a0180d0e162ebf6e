use Rattle.std.proofs.Common.{◌≤◌, ◌∙◌, arith, length}
use Rattle.std.proofs.lemmas.List.{length-take}
use Rattle.sut_classes.proofs.CodeLemmas.{mapped-length}
use Rattle.sut_classes.proofs.PlaceLemmas.{absent-before}
use Rattle.sut_classes.proofs.codes.Codes.copy.Goals as goal

pub push-requires-clause-absent : goal.push-requires-clause-absent
push-requires-clause-absent c =
    let unique = rw (← c.as_slice-code-items.ensures.keys) at c.as_slice-code-items.ensures.unique in
    absent-before (λ v. v.items) c.as_slice-code-items.result.now c.loop-code.code-index c.code-item.result _ _ unique (omega arith) c.code-item.is
    (c.in_ok-from_slice.ensures.items ∙ c.deref.ensures.value) c.loop-code.invariant

pub push-requires-clause-room : goal.push-requires-clause-room
push-requires-clause-room c =
    let few : length c.as_slice-code-items.result.now ≤ 512 = rw c.as_slice-code-items.ensures.keys c.self.invariant in
    rw (c.loop-code.invariant, mapped-length, length-take) (omega arith)
