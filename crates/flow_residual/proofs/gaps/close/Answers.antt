use Rattle.std.proofs.Common.{rules, ◌≡◌, ◌<◌, ◌*◌, ◌^◌, ◌+◌, pos, ◌+ℤ◌, ◌-ℤ◌, length, get_or, sym, ◌∙◌, ap, arith}
use Rattle.std.specs.Int.{int_min}
use Rattle.std.proofs.lemmas.Int.{to_z-of_z}
use Rattle.std.proofs.lemmas.List.{get_or_read}
use Rattle.std.proofs.lemmas.Bool.{eqb-false}
use mir.Syntax.{w128}
use mir.Val.{to_z, of_z, SFits}
use Rattle.flow_residual.specs.Gaps.{node_at}
use Rattle.flow_residual.proofs.Closed.{closed_at_first, closed_more, all_kept, all_in_range, narrowed_range, top_fits, top_is}
use Rattle.flow_residual.proofs.gaps.close.Goals as goal

pub loop-n-init : goal.loop-n-init
loop-n-init c =
    let some = eqb-false (length c.args.nodes.now) 0 (sym c.if-is_empty.ensures) in
    let there : 0 < length c.args.nodes.now = omega (arith, some) in
    let f : SFits w128 c.index-before.result.now = search rules in
    let same : to_z w128 (of_z w128 c.index-before.result.now) ≡ get_or c.args.potentials.now.items (node_at c.args.nodes.now 0) (pos 0) =
    to_z-of_z w128 c.index-before.result.now f ∙ get_or_read c.args.potentials.now.items (node_at c.args.nodes.now 0) c.index-before.result.now (c.requires.order.within 0 there) c.index-before.ensures (pos 0) in
    record {
      closed = closed_at_first c.args.nodes.now c.args.potentials.now.items (to_z w128 (of_z w128 c.index-before.result.now)) same;
      small = rw same (c.requires.range (node_at c.args.nodes.now 0) (pos 0) (c.requires.order.within 0 there));
    }

pub narrowed-top-requires-clause-before : goal.narrowed-top-requires-clause-before
narrowed-top-requires-clause-before c = c.loop-n.invariant.small

pub narrowed-top-requires-clause-p : goal.narrowed-top-requires-clause-p
narrowed-top-requires-clause-p c =
    let there : c.loop-n.n-index < length c.args.nodes.now = omega arith in
    let k = c.loop-n.invariant.closed in
    let within = c.requires.order.within c.loop-n.n-index there in
    let f : SFits w128 c.index-p.result.now = search rules in
    let same : to_z w128 (of_z w128 c.index-p.result.now) ≡ get_or c.args.potentials.now.items (node_at c.args.nodes.now c.loop-n.n-index) (pos 0) =
    to_z-of_z w128 c.index-p.result.now f ∙ get_or_read c.loop-n.potentials.items (node_at c.args.nodes.now c.loop-n.n-index) c.index-p.result.now (omega (arith, within, k.counted)) c.index-p.ensures (pos 0)
    ∙ k.rest c.loop-n.n-index (omega arith) there in
    rw same (c.requires.range (node_at c.args.nodes.now c.loop-n.n-index) (pos 0) within)

pub overflow_add-top : goal.overflow_add-top
overflow_add-top c =
    let there : c.loop-n.n-index < length c.args.nodes.now = omega arith in
    let k = c.loop-n.invariant.closed in
    let within = c.requires.order.within c.loop-n.n-index there in
    let f : SFits w128 c.index-p.result.now = search rules in
    let same : to_z w128 (of_z w128 c.index-p.result.now) ≡ get_or c.args.potentials.now.items (node_at c.args.nodes.now c.loop-n.n-index) (pos 0) =
    to_z-of_z w128 c.index-p.result.now f ∙ get_or_read c.loop-n.potentials.items (node_at c.args.nodes.now c.loop-n.n-index) c.index-p.result.now (omega (arith, within, k.counted)) c.index-p.ensures (pos 0)
    ∙ k.rest c.loop-n.n-index (omega arith) there in
    let r = narrowed_range c.narrowed-top.result (to_z w128 (of_z w128 c.index-p.result.now)) (to_z w128 c.loop-n.before-bits) c.narrowed-top.ensures (rw same (k.next there)) in
    top_fits (to_z w128 c.loop-n.top-bits) c.narrowed-top.result c.loop-n.n-index k.top_low k.top_high (omega (arith, there, c.requires.small)) r

pub loop-n-preserved : goal.loop-n-preserved
loop-n-preserved c =
    let there : c.loop-n.n-index < length c.args.nodes.now = omega arith in
    let k = c.loop-n.invariant.closed in
    let within = c.requires.order.within c.loop-n.n-index there in
    let f : SFits w128 c.index-p.result.now = search rules in
    let same : to_z w128 (of_z w128 c.index-p.result.now) ≡ get_or c.args.potentials.now.items (node_at c.args.nodes.now c.loop-n.n-index) (pos 0) =
    to_z-of_z w128 c.index-p.result.now f ∙ get_or_read c.loop-n.potentials.items (node_at c.args.nodes.now c.loop-n.n-index) c.index-p.result.now (omega (arith, within, k.counted)) c.index-p.ensures (pos 0)
    ∙ k.rest c.loop-n.n-index (omega arith) there in
    let r = narrowed_range c.narrowed-top.result (to_z w128 (of_z w128 c.index-p.result.now)) (to_z w128 c.loop-n.before-bits) c.narrowed-top.ensures (rw same (k.next there)) in
    let next : to_z w128 (of_z w128 (to_z w128 c.loop-n.top-bits +ℤ to_z w128 (of_z w128 c.narrowed-top.result))) ≡ to_z w128 c.loop-n.top-bits +ℤ int_min (to_z w128 (of_z w128 c.index-p.result.now) -ℤ to_z w128 c.loop-n.before-bits) (pos (4 * 10 ^ 16 + 1)) =
    top_is (to_z w128 c.loop-n.top-bits) c.narrowed-top.result c.loop-n.n-index k.top_low k.top_high (omega (arith, there, c.requires.small)) r ∙ ap (λ z. to_z w128 c.loop-n.top-bits +ℤ z) c.narrowed-top.ensures in
    record {
      closed = closed_more c.args.nodes.now c.args.potentials.now.items c.loop-n.potentials.items (to_z w128 c.loop-n.before-bits) (to_z w128 c.loop-n.top-bits) (to_z w128 (of_z w128 c.index-p.result.now))
          (to_z w128 (of_z w128 (to_z w128 c.loop-n.top-bits +ℤ to_z w128 (of_z w128 c.narrowed-top.result)))) c.loop-n.n-index c.requires.order k there same next;
      small = rw same (c.requires.range (node_at c.args.nodes.now c.loop-n.n-index) (pos 0) within);
    }

pub returns-clause-kept : goal.returns-clause-kept
returns-clause-kept c = all_kept c.args.nodes.now c.args.potentials.now.items c.loop-n.potentials.items _ _ c.loop-n.n-index c.requires.order c.loop-n.invariant.closed (omega arith)

pub returns-clause-range : goal.returns-clause-range
returns-clause-range c = all_in_range c.args.nodes.now c.args.potentials.now.items c.loop-n.potentials.items _ _ c.loop-n.n-index c.requires.order c.loop-n.invariant.closed (omega arith) (omega (arith, c.requires.small))
