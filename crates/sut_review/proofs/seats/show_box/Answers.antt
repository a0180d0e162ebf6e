use Rattle.std.proofs.Common.{◌≡◌, ◌∙◌, ◌+◌, ◌<◌, ◌^◌, ap, arith, sym}
use Rattle.sut_review.specs.Rules.{asked, marks_of}
use Rattle.sut_review.specs.Seats.{raised}
use Rattle.sut_review.proofs.Asked.{same-asked}
use Rattle.sut_review.proofs.Tallies.{raised-below}
use Rattle.sut_review.proofs.seats.show_box.Goals as goal

pub returns-then-tally_of-clause-tally : goal.returns-then-tally_of-clause-tally
returns-then-tally_of-clause-tally g c =
    let rule = (goal.Reviewer-dyn g (c.args.object.now.vtable, c.args.object.now.value)).rule c.args.object.now.value in
    let marked = (goal.Reviewer-dyn g (c.args.object.now.vtable, c.args.object.now.value)).marked c.args.object.now.value in
    let below : marked < 2 ^ 63 = omega (arith, c.tally_of.ensures, c.if-tally_of.true) in
    let risen : marked + marks_of rule c.args.p.now c.args.t.now ≡ raised marked (marks_of (asked rule) c.args.p.now c.args.t.now) =
    ap (λ n. marked + n) (sym (c.values_asked.ensures.counts rule)) ∙ sym (raised-below marked (marks_of (asked rule) c.args.p.now c.args.t.now) below) in
    c.see_in_box.ensures.tally ∙ risen

pub returns-then-tally_of-clause-rule : goal.returns-then-tally_of-clause-rule
returns-then-tally_of-clause-rule g c = same-asked _ _ c.see_in_box.ensures.rule
