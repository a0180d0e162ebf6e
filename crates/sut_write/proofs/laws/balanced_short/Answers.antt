use Rattle.std.proofs.Common.{All, subst}
use Rattle.sut_classes.specs.Kept.{IsClasses}
use Rattle.sut_tables.specs.Rows.{InRange}
use Rattle.sut_tables.specs.declared.tables.Held.{Held}
use Rattle.sut_write.proofs.TextLength.{text-short}
use Rattle.sut_write.proofs.laws.balanced_short.Goals as goal

pub returns : goal.returns
returns c =
    text-short c.args.p.now c.args.t.now c.kept.ensures (subst IsClasses c.classes.ensures c.kept-2.ensures) c.requires
    (subst (All (λ (h : Held). InRange h.number)) c.cells.ensures.all c.cells.ensures.in_range)
