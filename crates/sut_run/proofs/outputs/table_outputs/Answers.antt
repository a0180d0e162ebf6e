use Rattle.sut_readback.specs.BalancedFile.{balanced_of}
use Rattle.sut_readback.specs.BalancedText.{balanced_text}
use Rattle.sut_run.proofs.Delivered.{by-text, short-text}
use Rattle.sut_run.proofs.outputs.table_outputs.Goals as goal

pub returns-clause-spells : goal.returns-clause-spells
returns-clause-spells c = record {
  short = short-text _ (balanced_text c.args.p.now c.args.t.now) c.in_ok-balanced.ensures.text c.in_ok-balanced.ensures.short;
  read = by-text (balanced_of c.args.p.now) c.args.t.now _ (balanced_text c.args.p.now c.args.t.now) c.in_ok-balanced.ensures.text c.in_ok-balanced.ensures.reads_back;
}
