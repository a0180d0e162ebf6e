use Rattle.std.proofs.Common.{refl, sym, ◌∙◌, below_more, arith}
use Rattle.std.proofs.lemmas.Option.{slice_get_within}
use Rattle.flow_check.proofs.checks.are_shown.Goals as goal

pub returns-then-not-arc_is_shown : goal.returns-then-not-arc_is_shown
returns-then-not-arc_is_shown g c = (λ t. absurd (cc), λ h. sym c.if-not-arc_is_shown.true ∙ c.arc_is_shown.ensures.1 (h c.loop-a.a))

pub loop-a-preserved : goal.loop-a-preserved
loop-a-preserved g c = below_more _ _ c.loop-a.invariant (c.arc_is_shown.ensures.0 c.if-not-arc_is_shown.false)

pub returns : goal.returns
returns g c =
    (λ t a arc d x h. c.loop-a.invariant a (omega (arith, slice_get_within c.args.g.now.arcs a arc h.arc_is, c.loop-a-test.false, c.arc_count-a-end.ensures.count)) arc d x h, λ h. refl)
