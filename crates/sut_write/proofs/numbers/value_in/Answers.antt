use Rattle.std.proofs.Common.{All, ◌^◌, ◌∙◌, subst, sym}
use Rattle.std.proofs.lemmas.Int.{to_z-of_z}
use mir.Syntax.{w128}
use mir.Val.{SFits}
use Rattle.sut_tables.specs.CellSums.{IsUpTo}
use Rattle.sut_tables.specs.Rows.{InRange}
use Rattle.sut_tables.specs.declared.tables.Held.{Held}
use Rattle.sut_readback.proofs.Bounds.{value-up_to}
use Rattle.sut_write.proofs.numbers.value_in.Goals as goal

pub returns-clause-small : goal.returns-clause-small
returns-clause-small c =
    let fits : SFits w128 c.value.result = record { sfits = c.value.type_inv } in
    subst (IsUpTo (2 ^ 58)) (sym (to_z-of_z w128 c.value.result fits ∙ c.value.ensures))
    (value-up_to c.args.p.now c.args.t.now c.kept.ensures c.requires (subst (All (λ (h : Held). InRange h.number)) c.cells.ensures.all c.cells.ensures.in_range) c.args.m)
