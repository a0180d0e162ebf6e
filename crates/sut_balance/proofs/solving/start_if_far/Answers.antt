use Rattle.std.proofs.Common.{◌∙◌, ap, arith, List, ℤ, pos, ◌<ℤ◌}
use Rattle.std.proofs.lemmas.Int.{ints}
use Rattle.flow_solve.specs.Bounds.{surplus}
use Rattle.flow_solve.proofs.Underway.{surplus_is}
use Rattle.flow_solve.proofs.Unique.{settles_alone}
use Rattle.sut_balance.proofs.solving.start_if_far.Goals as goal

pub returns-in_err-start-clause-near : goal.returns-in_err-start-clause-near
returns-in_err-start-clause-near g c = λ settled h few.
    let now = c.settle_all.new.self in
    let same = surplus_is g.N.PartialEq.eq g.A.PartialEq.eq g.C.Cost.span_of g.C.Cost.value_at g.met.C.Cost.lawful c.args.s.now now now 0 0 c.graph.ensures.kept c.settle_all.ensures.settled c.settle_all.ensures.rest settled h in
    let much : pos 4_096 <ℤ surplus now now.flows = c.has_much_left.ensures.0 c.if-has_much_left.true in
    absurd (omega (arith, ints, same, few, much))

pub returns-in_ok-start-clause-near : goal.returns-in_ok-start-clause-near
returns-in_ok-start-clause-near g c = λ settled h few.
    let now = c.settle_all.new.self in
    let same = surplus_is g.N.PartialEq.eq g.A.PartialEq.eq g.C.Cost.span_of g.C.Cost.value_at g.met.C.Cost.lawful c.args.s.now now now 0 0 c.graph.ensures.kept c.settle_all.ensures.settled c.settle_all.ensures.rest settled h in
    let much : pos 4_096 <ℤ surplus now now.flows = c.has_much_left.ensures.0 c.if-has_much_left.true in
    absurd (omega (arith, ints, same, few, much))

pub returns-else-has_much_left-clause-near : goal.returns-else-has_much_left-clause-near
returns-else-has_much_left-clause-near g c = λ settled h few.
    let old = c.args.s.now in
    let now = c.settle_all.new.self in
    let same = settles_alone g.N.PartialEq.eq g.A.PartialEq.eq g.C.Cost.value_at g.C.Cost.span_of old now.flows settled g.met.C.Cost.lawful c.graph.ensures.kept c.settle_all.ensures.settled h in
    c.settle_all.ensures.rest ∙ ap (λ (xs : List ℤ). record old { flows = xs }) same
