use Rattle.std.proofs.Common.{◌∙◌, ap, map, string_bytes}
use Rattle.sut_program.proofs.Ran.{runs_of}
use Rattle.sut_program.proofs.programs.run_reviewed.Goals as goal

pub returns-clause-ran : goal.returns-clause-ran
returns-clause-ran g c =
    runs_of _ _ _ _ _ _ _ _ (ap (map string_bytes) c.deref.ensures.value ∙ c.in_ok-words.ensures) c.run.ensures.usage c.run.ensures.input c.run.ensures.stands
    c.run.ensures.balanced c.run.ensures.infeasible
