use Rattle.sut_run.proofs.Delivered.{has-table}
use Rattle.sut_run.proofs.outputs.make.Goals as goal

pub screen_text-requires : goal.screen_text-requires
screen_text-requires c = has-table c.args.p.now c.args.answer c.requires

pub report_text-requires : goal.report_text-requires
report_text-requires c = has-table c.args.p.now c.args.answer c.requires
