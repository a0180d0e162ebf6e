use Rattle.std.proofs.Common.{refl}
use Rattle.sut_program.proofs.Said.{said_memory, said_text}
use Rattle.sut_program.proofs.endings.end.Goals as goal
use Rattle.sut_program.proofs.endings.end.Goals.{in-Err, in-Ok}

pub returns-clause-said : goal.returns-clause-said
returns-clause-said g c =
    elim c.match-error_text.branch [
      | in-Ok w ↦ rw w.err-is (said_text c.args.status _ w.put.result _ _ (rw w.deref.ensures.value w.in-Ok.ensures) w.put.ensures.sent)
      | in-Err w ↦ rw w.err-is (said_memory c.args.status _ w.put-in-Err.result _ _ refl w.put-in-Err.ensures.sent)
    ]
