use Rattle.std.proofs.Common.{◌≡◌, ◌<◌, ◌≤◌, ◌+◌, ◌∙◌, cond, length, refl, sym, subst, arith}
use Rattle.std.proofs.lemmas.List.Elements.{All-get_or}
use Rattle.std.proofs.lemmas.List.Sums.{sum_by-take-le}
use Rattle.sut_classes.specs.ClassLists.{ClassLists}
use Rattle.sut_edits.specs.EditRules.{FitsClasses, IsGraded}
use Rattle.sut_edits.specs.EditsFile.{is_balance}
use Rattle.sut_edits.specs.declared.edits.EditLine.{EditLine}
use Rattle.sut_review.specs.Seats.{seat_of, seats_of}
use Rattle.sut_editing.specs.Reached.{kept_in}
use Rattle.sut_editing.specs.Moments.{lines_taken}
use Rattle.sut_editing.proofs.Answering.{added-up, counted-next, few-so-far, if-refused}
use Rattle.sut_editing.proofs.Reaching.{so-ended, so-next, so-refused}
use Rattle.sut_editing.proofs.taking.take_lines.Goals as goal

pub loop-line-init : goal.loop-line-init
loop-line-init g c = record {
  so = λ first stage events r. record { stage = stage; events = events; is = refl; reached = r };
  classes = refl;
  graded = λ s all rows. rows;
  counted = omega arith;
  shown = c.requires.shown;
}

pub take_line-requires-clause-fits : goal.take_line-requires-clause-fits
take_line-requires-clause-fits g c =
    let below : c.loop-line.line-index < length c.args.lines.now = omega arith in
    subst (λ (cs : ClassLists). FitsClasses cs c.line-item.result.edit) (sym c.loop-line.invariant.classes) (subst (λ (x : EditLine). FitsClasses c.args.session.now.problem.classes x.edit) (sym c.line-item.is) (All-get_or (λ (x : EditLine). FitsClasses c.args.session.now.problem.classes x.edit) c.args.lines.now c.loop-line.line-index c.line-item.result below c.requires.fits))

pub take_line-requires-clause-few : goal.take_line-requires-clause-few
take_line-requires-clause-few g c = few-so-far c.loop-line.log.rebalances c.args.log.now.rebalances _ _ c.loop-line.invariant.counted (sum_by-take-le (λ (x : EditLine). cond (is_balance x.edit) 1 0) c.args.lines.now c.loop-line.line-index) c.requires.few

pub returns-in-Err-clause-refused : goal.returns-in-Err-clause-refused
returns-in-Err-clause-refused g c =
    let below : c.loop-line.line-index < length c.args.lines.now = omega arith in
    if-refused c.in-Err.fault (λ f h first stage events r. so-refused first (lines_taken c.args.lines.now stage) c.args.lines.now c.loop-line.line-index c.line-item.result (kept_in c.loop-line.session (seats_of c.loop-line.panel.seats.items (λ seat. seat_of (λ b. (g.dyn-1.0.entry b.vtable).1.rule b.value) (λ b. (g.dyn-1.0.entry b.vtable).1.marked b.value) c.loop-line.panel.shown seat.label.items seat.seen seat.tally seat.object)) c.loop-line.log) f below c.line-item.is (c.loop-line.invariant.so first stage events r) (λ s e x. h first s e x)) c.in-Err.ensures.refused

pub loop-line-preserved : goal.loop-line-preserved
loop-line-preserved g c =
    let below : c.loop-line.line-index < length c.args.lines.now = omega arith in
    record {
      so = λ first stage events r. so-next first (lines_taken c.args.lines.now stage) c.args.lines.now c.loop-line.line-index c.line-item.result (kept_in c.loop-line.session (seats_of c.loop-line.panel.seats.items (λ seat. seat_of (λ b. (g.dyn-1.0.entry b.vtable).1.rule b.value) (λ b. (g.dyn-1.0.entry b.vtable).1.marked b.value) c.loop-line.panel.shown seat.label.items seat.seen seat.tally seat.object)) c.loop-line.log) (kept_in c.take_line.new.session (seats_of c.take_line.new.panel.seats.items (λ seat. seat_of (λ b. (g.dyn-1.0.entry b.vtable).1.rule b.value) (λ b. (g.dyn-1.0.entry b.vtable).1.marked b.value) c.take_line.new.panel.shown seat.label.items seat.seen seat.tally seat.object)) c.take_line.new.log) below c.line-item.is (c.loop-line.invariant.so first stage events r) (λ s e x. c.in-Ok.ensures.taken first s e x);
      classes = c.in-Ok.ensures.classes ∙ c.loop-line.invariant.classes;
      graded = λ s all rows. c.in-Ok.ensures.graded s (subst (λ (x : EditLine). IsGraded s x.edit) (sym c.line-item.is) (All-get_or (λ (x : EditLine). IsGraded s x.edit) c.args.lines.now c.loop-line.line-index c.line-item.result below all)) (c.loop-line.invariant.graded s all rows);
      counted = added-up _ _ _ _ _ _ c.in-Ok.ensures.counted c.loop-line.invariant.counted (counted-next c.args.lines.now c.loop-line.line-index c.line-item.result below c.line-item.is);
      shown = c.in-Ok.ensures.shown;
    }

pub returns-clause-taken : goal.returns-clause-taken
returns-clause-taken g c =
    let past : length c.args.lines.now ≤ c.loop-line.line-index = omega arith in
    λ first stage events r. so-ended first (lines_taken c.args.lines.now stage) c.args.lines.now c.loop-line.line-index (kept_in c.loop-line.session (seats_of c.loop-line.panel.seats.items (λ seat. seat_of (λ b. (g.dyn-1.0.entry b.vtable).1.rule b.value) (λ b. (g.dyn-1.0.entry b.vtable).1.marked b.value) c.loop-line.panel.shown seat.label.items seat.seen seat.tally seat.object)) c.loop-line.log) past (c.loop-line.invariant.so first stage events r)

pub returns-clause-graded : goal.returns-clause-graded
returns-clause-graded g c = c.loop-line.invariant.graded

pub returns-clause-few : goal.returns-clause-few
returns-clause-few g c = few-so-far c.loop-line.log.rebalances c.args.log.now.rebalances _ _ c.loop-line.invariant.counted (sum_by-take-le (λ (x : EditLine). cond (is_balance x.edit) 1 0) c.args.lines.now c.loop-line.line-index) c.requires.few
