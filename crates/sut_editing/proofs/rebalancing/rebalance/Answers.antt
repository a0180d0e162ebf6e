use Rattle.std.proofs.Common.{◌++◌, ◌+◌, ◌∙◌, ap, subst, sym}
use Rattle.sut_cert.specs.declared.answers.Answer.{Answer}
use Rattle.sut_tables.specs.ProblemFacts.{ProblemFacts}
use Rattle.sut_review.specs.Seats.{seat_of, seats_of}
use Rattle.sut_session.specs.Standing.{IsAnswerTo}
use Rattle.sut_write.specs.Screen.{rebalance_text}
use Rattle.sut_write.specs.Trail.{answer_lines}
use Rattle.sut_editing.specs.Shown.{seats_shown}
use Rattle.sut_editing.proofs.Reaching.{near-standing, standing-answer}
use Rattle.sut_editing.proofs.rebalancing.rebalance.Goals as goal

pub returns-clause-balanced : goal.returns-clause-balanced
returns-clause-balanced g c =
    let a = c.in-Some.answer.now in
    let shown = c.problem.ensures ∙ c.answer_rows.ensures.problem in
    let logged = c.problem-in-Some.ensures ∙ c.answer_rows.ensures.problem in
    record {
      answer = a;
      is = subst (λ (p : ProblemFacts). IsAnswerTo p c.answer_rows.new.session.kept a) c.answer_rows.ensures.problem (standing-answer (IsAnswerTo c.answer_rows.new.session.problem c.answer_rows.new.session.kept) c.answer_rows.new.session.answer a c.in-Some.ensures.value c.in-Some.ensures.right);
      problem = c.answer_rows.ensures.problem;
      stands = sym c.in-Some.ensures.value;
      seats = c.show_answer.ensures.seats ∙ ap (λ (p : ProblemFacts). seats_shown p a (seats_of c.args.panel.now.seats.items (λ seat. seat_of (λ b. (g.dyn-1.0.entry b.vtable).1.rule b.value) (λ b. (g.dyn-1.0.entry b.vtable).1.marked b.value) c.args.panel.now.shown seat.label.items seat.seen seat.tally seat.object))) shown;
      trail = c.in_ok-log_answer-in-Some.ensures.trail ∙ ap (λ (p : ProblemFacts). c.args.log.now.trail.items ++ answer_lines (c.args.log.now.rebalances + 1) p a) logged;
      lines = c.in_ok-log_answer-in-Some.ensures.lines ∙ ap (λ (p : ProblemFacts). c.args.log.now.lines.items ++ rebalance_text c.args.place p a) logged;
      rebalances = c.in_ok-log_answer-in-Some.ensures.rebalances;
      marked = c.in_ok-log_answer-in-Some.ensures.marked;
      near = near-standing c.args.session.now c.answer_rows.new.session a c.in-Some.ensures.value c.answer_rows.ensures.problem c.in_ok-answer_rows.ensures.near;
    }
