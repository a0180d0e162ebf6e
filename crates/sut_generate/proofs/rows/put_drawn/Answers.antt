use Rattle.sut_generate.proofs.Drawing.{Draws-one}
use Rattle.sut_generate.specs.DrawnRows.{drawn_of}
use Rattle.sut_generate.proofs.rows.put_drawn.Goals as goal

pub returns : goal.returns
returns c = Draws-one _ _ _ _ (drawn_of c.args.row.now) c.next_state-next.ensures.same c.in_ok-put_row.ensures
