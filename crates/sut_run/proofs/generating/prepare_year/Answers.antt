use Rattle.sut_run.specs.Outputs.{texts_in}
use Rattle.sut_run.proofs.Made.{made-ready}
use Rattle.sut_run.proofs.generating.prepare_year.Goals as goal

pub returns-in-Ok-clause-ready : goal.returns-in-Ok-clause-ready
returns-in-Ok-clause-ready c = λ seats held.
    made-ready seats c.args.seed c.args.products c.args.industries (texts_in c.in-Ok.made.outputs.items) c.in-Ok.made.lines.items c.in-Ok.ensures held
