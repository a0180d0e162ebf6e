use Rattle.std.proofs.Common.{◌≡◌, neg_ℤ, arith, ◌∙◌}
use Rattle.std.proofs.lemmas.Int.{ints, to_z-of_z}
use mir.Syntax.{w64, w128}
use mir.Val.{to_z, of_z, SFits}
use Rattle.flow_cost.proofs.Convex.{between}
use Rattle.flow_cost.proofs.Nearest.{nearest_up, nearest_down, nearest_here, up_end, down_end}
use Rattle.flow_cost.proofs.Paying.{in_limit}
use Rattle.flow_cost.proofs.settling.settle.Goals as goal

pub pays_within-requires-clause-from : goal.pays_within-requires-clause-from
pays_within-requires-clause-from g c = rw (to_z-of_z w64 c.args.x c.ranges.x) (between (g.C.Cost.span_of c.args.cost.now) c.args.lo c.args.hi c.args.x c.requires.low.1 c.requires.high.1 c.requires.low.0 c.requires.high.0)

pub pays_within-requires-clause-low : goal.pays_within-requires-clause-low
pays_within-requires-clause-low g c = rw (to_z-of_z w64 c.args.lo c.ranges.lo) c.requires.low.1

pub pays_within-requires-clause-high : goal.pays_within-requires-clause-high
pays_within-requires-clause-high g c = rw (to_z-of_z w64 c.args.hi c.ranges.hi) c.requires.high.1

pub pays_within-requires-clause-by : goal.pays_within-requires-clause-by
pays_within-requires-clause-by g c = rw (to_z-of_z w64 c.args.step c.ranges.step) (record { low = omega (arith, ints, c.requires.step.0); high = omega (arith, ints, c.requires.step.1) })

pub whole_steps-above-requires-clause-low : goal.whole_steps-above-requires-clause-low
whole_steps-above-requires-clause-low g c = rw (to_z-of_z w64 c.args.x c.ranges.x) (in_limit _ _ _ (g.met.C.Cost.lawful c.args.cost.now) (between (g.C.Cost.span_of c.args.cost.now) c.args.lo c.args.hi c.args.x c.requires.low.1 c.requires.high.1 c.requires.low.0 c.requires.high.0)).low

pub whole_steps-above-requires-clause-high : goal.whole_steps-above-requires-clause-high
whole_steps-above-requires-clause-high g c = rw (to_z-of_z w64 c.args.hi c.ranges.hi) (in_limit _ _ _ (g.met.C.Cost.lawful c.args.cost.now) c.requires.high.1).high

pub paying-up-requires-clause-from : goal.paying-up-requires-clause-from
paying-up-requires-clause-from g c = rw (to_z-of_z w64 c.args.x c.ranges.x) (between (g.C.Cost.span_of c.args.cost.now) c.args.lo c.args.hi c.args.x c.requires.low.1 c.requires.high.1 c.requires.low.0 c.requires.high.0)

pub paying-up-requires-clause-to : goal.paying-up-requires-clause-to
paying-up-requires-clause-to g c =
    rw (to_z-of_z w64 c.args.x c.ranges.x, to_z-of_z w64 c.args.step c.ranges.step) (up_end (g.C.Cost.span_of c.args.cost.now) c.args.x c.args.lo c.args.hi c.args.step c.whole_steps-above.result c.whole_steps-above.result c.requires.low.0 c.requires.high.0 c.requires.low.1 c.requires.high.1 c.requires.step.0 (omega arith) (simp (to_z-of_z w64 c.args.x c.ranges.x, to_z-of_z w64 c.args.hi c.ranges.hi, to_z-of_z w64 c.args.step c.ranges.step) at c.whole_steps-above.ensures.fit))

pub place-requires : goal.place-requires
place-requires g c =
    rw (to_z-of_z w64 c.args.x c.ranges.x, to_z-of_z w64 c.args.step c.ranges.step) (in_limit _ _ _ (g.met.C.Cost.lawful c.args.cost.now) (up_end (g.C.Cost.span_of c.args.cost.now) c.args.x c.args.lo c.args.hi c.args.step c.paying-up.result c.whole_steps-above.result c.requires.low.0 c.requires.high.0 c.requires.low.1 c.requires.high.1 c.requires.step.0 c.paying-up.ensures.within (simp (to_z-of_z w64 c.args.x c.ranges.x, to_z-of_z w64 c.args.hi c.ranges.hi, to_z-of_z w64 c.args.step c.ranges.step) at c.whole_steps-above.ensures.fit)))

pub returns-then-pays_within : goal.returns-then-pays_within
returns-then-pays_within g c =
    let fits : SFits w64 c.place.result = record { sfits = c.place.type_inv } in
    rw (to_z-of_z w64 c.place.result fits, simp (to_z-of_z w64 c.args.x c.ranges.x, to_z-of_z w64 c.args.step c.ranges.step) at c.place.ensures)
    (nearest_up (g.C.Cost.value_at c.args.cost.now) (g.C.Cost.span_of c.args.cost.now) (g.met.C.Cost.lawful c.args.cost.now) c.args.x c.args.lo c.args.hi c.args.step c.args.slope c.paying-up.result c.whole_steps-above.result c.requires.low.0 c.requires.high.0 c.requires.low.1 c.requires.high.1 c.requires.step.0
    (simp (to_z-of_z w64 c.args.x c.ranges.x, to_z-of_z w64 c.args.step c.ranges.step, to_z-of_z w64 c.args.lo c.ranges.lo, to_z-of_z w64 c.args.hi c.ranges.hi) at (c.pays_within.ensures.fits c.if-pays_within.true)).1
    (simp (to_z-of_z w64 c.args.x c.ranges.x, to_z-of_z w64 c.args.step c.ranges.step, to_z-of_z w128 c.args.slope c.ranges.slope) at (c.pays_within.ensures.pays c.if-pays_within.true))
    c.paying-up.ensures.within (simp (to_z-of_z w64 c.args.x c.ranges.x, to_z-of_z w64 c.args.hi c.ranges.hi, to_z-of_z w64 c.args.step c.ranges.step) at c.whole_steps-above.ensures.fit) (simp (to_z-of_z w64 c.args.x c.ranges.x, to_z-of_z w64 c.args.hi c.ranges.hi, to_z-of_z w64 c.args.step c.ranges.step) at c.whole_steps-above.ensures.most)
    (λ k l. simp (to_z-of_z w64 c.args.x c.ranges.x, to_z-of_z w64 c.args.step c.ranges.step, to_z-of_z w128 c.args.slope c.ranges.slope) at (c.paying-up.ensures.pay k l))
    (λ l. simp (to_z-of_z w64 c.args.x c.ranges.x, to_z-of_z w64 c.args.step c.ranges.step, to_z-of_z w128 c.args.slope c.ranges.slope) at (c.paying-up.ensures.stops l)))

pub pays_within-requires-2-clause-from : goal.pays_within-requires-2-clause-from
pays_within-requires-2-clause-from g c = rw (to_z-of_z w64 c.args.x c.ranges.x) (between (g.C.Cost.span_of c.args.cost.now) c.args.lo c.args.hi c.args.x c.requires.low.1 c.requires.high.1 c.requires.low.0 c.requires.high.0)

pub pays_within-requires-2-clause-low : goal.pays_within-requires-2-clause-low
pays_within-requires-2-clause-low g c = rw (to_z-of_z w64 c.args.lo c.ranges.lo) c.requires.low.1

pub pays_within-requires-2-clause-high : goal.pays_within-requires-2-clause-high
pays_within-requires-2-clause-high g c = rw (to_z-of_z w64 c.args.hi c.ranges.hi) c.requires.high.1

pub pays_within-requires-2-clause-by : goal.pays_within-requires-2-clause-by
pays_within-requires-2-clause-by g c =
    let fits : SFits w64 c.opposite-back.result = record { sfits = c.opposite-back.type_inv } in
    let back : c.opposite-back.result ≡ neg_ℤ c.args.step = rw (to_z-of_z w64 c.args.step c.ranges.step) at c.opposite-back.ensures in
    let eb : to_z w64 (of_z w64 c.opposite-back.result) ≡ neg_ℤ c.args.step = to_z-of_z w64 c.opposite-back.result fits ∙ back in
    rw eb (record { low = omega (arith, ints, c.requires.step.1); high = omega (arith, ints, c.requires.step.0) })

pub whole_steps-below-requires-clause-low : goal.whole_steps-below-requires-clause-low
whole_steps-below-requires-clause-low g c = rw (to_z-of_z w64 c.args.lo c.ranges.lo) (in_limit _ _ _ (g.met.C.Cost.lawful c.args.cost.now) c.requires.low.1).low

pub whole_steps-below-requires-clause-high : goal.whole_steps-below-requires-clause-high
whole_steps-below-requires-clause-high g c = rw (to_z-of_z w64 c.args.x c.ranges.x) (in_limit _ _ _ (g.met.C.Cost.lawful c.args.cost.now) (between (g.C.Cost.span_of c.args.cost.now) c.args.lo c.args.hi c.args.x c.requires.low.1 c.requires.high.1 c.requires.low.0 c.requires.high.0)).high

pub paying-down-requires-clause-from : goal.paying-down-requires-clause-from
paying-down-requires-clause-from g c = rw (to_z-of_z w64 c.args.x c.ranges.x) (between (g.C.Cost.span_of c.args.cost.now) c.args.lo c.args.hi c.args.x c.requires.low.1 c.requires.high.1 c.requires.low.0 c.requires.high.0)

pub paying-down-requires-clause-by : goal.paying-down-requires-clause-by
paying-down-requires-clause-by g c =
    let fits : SFits w64 c.opposite-back.result = record { sfits = c.opposite-back.type_inv } in
    let back : c.opposite-back.result ≡ neg_ℤ c.args.step = rw (to_z-of_z w64 c.args.step c.ranges.step) at c.opposite-back.ensures in
    let eb : to_z w64 (of_z w64 c.opposite-back.result) ≡ neg_ℤ c.args.step = to_z-of_z w64 c.opposite-back.result fits ∙ back in
    rw eb (record { low = omega (arith, ints, c.requires.step.1); high = omega (arith, ints, c.requires.step.0) })

pub paying-down-requires-clause-to : goal.paying-down-requires-clause-to
paying-down-requires-clause-to g c =
    let fits : SFits w64 c.opposite-back.result = record { sfits = c.opposite-back.type_inv } in
    let back : c.opposite-back.result ≡ neg_ℤ c.args.step = rw (to_z-of_z w64 c.args.step c.ranges.step) at c.opposite-back.ensures in
    let eb : to_z w64 (of_z w64 c.opposite-back.result) ≡ neg_ℤ c.args.step = to_z-of_z w64 c.opposite-back.result fits ∙ back in
    rw (to_z-of_z w64 c.args.x c.ranges.x, eb) (down_end (g.C.Cost.span_of c.args.cost.now) c.args.x c.args.lo c.args.hi c.args.step c.whole_steps-below.result c.whole_steps-below.result c.requires.low.0 c.requires.high.0 c.requires.low.1 c.requires.high.1 c.requires.step.0 (omega arith) (simp (to_z-of_z w64 c.args.x c.ranges.x, to_z-of_z w64 c.args.lo c.ranges.lo, to_z-of_z w64 c.args.step c.ranges.step) at c.whole_steps-below.ensures.fit))

pub place-requires-then-pays_within-2 : goal.place-requires-then-pays_within-2
place-requires-then-pays_within-2 g c =
    let fits : SFits w64 c.opposite-back.result = record { sfits = c.opposite-back.type_inv } in
    let back : c.opposite-back.result ≡ neg_ℤ c.args.step = rw (to_z-of_z w64 c.args.step c.ranges.step) at c.opposite-back.ensures in
    let eb : to_z w64 (of_z w64 c.opposite-back.result) ≡ neg_ℤ c.args.step = to_z-of_z w64 c.opposite-back.result fits ∙ back in
    rw (to_z-of_z w64 c.args.x c.ranges.x, eb) (in_limit _ _ _ (g.met.C.Cost.lawful c.args.cost.now) (down_end (g.C.Cost.span_of c.args.cost.now) c.args.x c.args.lo c.args.hi c.args.step c.paying-down.result c.whole_steps-below.result c.requires.low.0 c.requires.high.0 c.requires.low.1 c.requires.high.1 c.requires.step.0 c.paying-down.ensures.within (simp (to_z-of_z w64 c.args.x c.ranges.x, to_z-of_z w64 c.args.lo c.ranges.lo, to_z-of_z w64 c.args.step c.ranges.step) at c.whole_steps-below.ensures.fit)))

pub returns-then-pays_within-2 : goal.returns-then-pays_within-2
returns-then-pays_within-2 g c =
    let fits : SFits w64 c.opposite-back.result = record { sfits = c.opposite-back.type_inv } in
    let back : c.opposite-back.result ≡ neg_ℤ c.args.step = rw (to_z-of_z w64 c.args.step c.ranges.step) at c.opposite-back.ensures in
    let eb : to_z w64 (of_z w64 c.opposite-back.result) ≡ neg_ℤ c.args.step = to_z-of_z w64 c.opposite-back.result fits ∙ back in
    let fits2 : SFits w64 c.place-then-pays_within-2.result = record { sfits = c.place-then-pays_within-2.type_inv } in
    rw (to_z-of_z w64 c.place-then-pays_within-2.result fits2, simp (to_z-of_z w64 c.args.x c.ranges.x, eb) at c.place-then-pays_within-2.ensures)
    (nearest_down (g.C.Cost.value_at c.args.cost.now) (g.C.Cost.span_of c.args.cost.now) (g.met.C.Cost.lawful c.args.cost.now) c.args.x c.args.lo c.args.hi c.args.step c.args.slope c.paying-down.result c.whole_steps-below.result c.requires.low.0 c.requires.high.0 c.requires.low.1 c.requires.high.1 c.requires.step.0
    (simp (to_z-of_z w64 c.args.x c.ranges.x, to_z-of_z w64 c.args.step c.ranges.step, to_z-of_z w64 c.args.lo c.ranges.lo, to_z-of_z w64 c.args.hi c.ranges.hi, to_z-of_z w128 c.args.slope c.ranges.slope) at (c.pays_within.ensures.stops c.if-pays_within.false))
    c.paying-down.ensures.within (simp (to_z-of_z w64 c.args.x c.ranges.x, to_z-of_z w64 c.args.lo c.ranges.lo, to_z-of_z w64 c.args.step c.ranges.step) at c.whole_steps-below.ensures.fit) (simp (to_z-of_z w64 c.args.x c.ranges.x, to_z-of_z w64 c.args.lo c.ranges.lo, to_z-of_z w64 c.args.step c.ranges.step) at c.whole_steps-below.ensures.most)
    (λ k l. simp (to_z-of_z w64 c.args.x c.ranges.x, eb, to_z-of_z w128 c.args.slope c.ranges.slope) at (c.paying-down.ensures.pay k l))
    (λ l. simp (to_z-of_z w64 c.args.x c.ranges.x, eb, to_z-of_z w128 c.args.slope c.ranges.slope) at (c.paying-down.ensures.stops l)))

pub returns : goal.returns
returns g c =
    let fits : SFits w64 c.opposite-back.result = record { sfits = c.opposite-back.type_inv } in
    let back : c.opposite-back.result ≡ neg_ℤ c.args.step = rw (to_z-of_z w64 c.args.step c.ranges.step) at c.opposite-back.ensures in
    let eb : to_z w64 (of_z w64 c.opposite-back.result) ≡ neg_ℤ c.args.step = to_z-of_z w64 c.opposite-back.result fits ∙ back in
    rw (to_z-of_z w64 c.args.x c.ranges.x)
    (nearest_here (g.C.Cost.value_at c.args.cost.now) c.args.x c.args.lo c.args.hi c.args.step c.args.slope c.requires.low.0 c.requires.high.0 c.requires.step.0
    (simp (to_z-of_z w64 c.args.x c.ranges.x, to_z-of_z w64 c.args.step c.ranges.step, to_z-of_z w64 c.args.lo c.ranges.lo, to_z-of_z w64 c.args.hi c.ranges.hi, to_z-of_z w128 c.args.slope c.ranges.slope) at (c.pays_within.ensures.stops c.if-pays_within.false))
    (simp (to_z-of_z w64 c.args.x c.ranges.x, eb, to_z-of_z w64 c.args.lo c.ranges.lo, to_z-of_z w64 c.args.hi c.ranges.hi, to_z-of_z w128 c.args.slope c.ranges.slope) at (c.pays_within-2.ensures.stops c.if-pays_within-2.false)))
