use Rattle.std.proofs.Common.{◌∙◌, ◌++◌, ap}
use Rattle.sut_run.specs.Deliveries.{answer_files}
use Rattle.sut_run.proofs.balancing.prepare.Goals as goal

pub returns : goal.returns
returns g c = record {
  answer = c.in_ok-answer.answer;
  right = c.in_ok-answer.ensures.right;
  ends = c.status_of-done.ensures;
  written = c.in_ok-made.ensures.texts ∙ ap (λ review. answer_files c.args.p.now c.in_ok-answer.answer ++ review) c.in_ok-review.ensures;
  printed = c.in_ok-made.ensures.lines;
  reads_back = c.in_ok-made.ensures.reads_back;
  impossible = c.in_ok-answer.ensures.infeasible;
}
