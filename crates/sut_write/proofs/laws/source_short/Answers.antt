use Rattle.std.proofs.Common.{subst}
use Rattle.sut_classes.specs.Kept.{IsClasses}
use Rattle.sut_write.proofs.SourceLength.{source-text-short}
use Rattle.sut_write.proofs.laws.source_short.Goals as goal

pub returns : goal.returns
returns c = source-text-short c.args.s.now c.args.p.now c.kept.ensures c.kept-2.ensures (subst IsClasses c.classes.ensures c.kept-3.ensures)
