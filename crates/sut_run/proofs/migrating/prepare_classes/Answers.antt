use Rattle.std.proofs.Common.{◌≡◌, ◌∙◌, ap}
use Rattle.sut_run.proofs.ClassesLength.{classes-text-short}
use Rattle.sut_run.proofs.Delivered.{by-text}
use Rattle.sut_classes.specs.ClassFile.{classes_of}
use Rattle.sut_classes.specs.ClassText.{classes_text}
use Rattle.sut_run.proofs.migrating.prepare_classes.Goals as goal

pub returns-clause-reads_back : goal.returns-clause-reads_back
returns-clause-reads_back c = record {
  short = classes-text-short c.args.classes.now c.kept.ensures;
  read = by-text classes_of (record c.args.classes.now { format = 2 }) c.in_ok-text.text.items (classes_text c.args.classes.now) c.in_ok-text.ensures.text c.in_ok-text.ensures.reads_back;
}
