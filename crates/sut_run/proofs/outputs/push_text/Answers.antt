use Rattle.sut_run.proofs.Texts.{texts-pushed}
use Rattle.sut_run.proofs.outputs.push_text.Goals as goal

pub returns : goal.returns
returns c = texts-pushed c.args.outputs.now.items c.push.new.self.items (record { name = c.args.name; text = c.args.text }) c.in_ok-push.ensures.items
