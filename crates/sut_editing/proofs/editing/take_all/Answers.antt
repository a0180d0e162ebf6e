use Rattle.std.proofs.Common.{All, subst, sym}
use Rattle.sut_source.specs.SourceText.{HasGrade}
use Rattle.sut_tables.specs.ProblemFacts.{ProblemFacts}
use Rattle.sut_editing.proofs.Finishing.{all-taken}
use Rattle.sut_editing.proofs.editing.take_all.Goals as goal

pub returns-in-Ok-balance_at_end-clause-taken : goal.returns-in-Ok-balance_at_end-clause-taken
returns-in-Ok-balance_at_end-clause-taken g c first stage events r =
    all-taken first c.args.lines.now stage _ _ (c.in-Ok.ensures.taken first stage events r) (λ s e x. c.in-Ok-balance_at_end.ensures.ended first s e x)

pub returns-in-Ok-balance_at_end-clause-graded : goal.returns-in-Ok-balance_at_end-clause-graded
returns-in-Ok-balance_at_end-clause-graded g c s graded rows =
    subst (λ (p : ProblemFacts). All (HasGrade s) p.rows) (sym c.in-Ok-balance_at_end.ensures.problem) (c.in-Ok.ensures.graded s graded rows)
