use Rattle.std.proofs.Common.{rules, ◌≡◌, ◌<◌, true, false, length, not, ◌+◌, subst, sym, ◌∙◌, arith, IsTrue}
use Rattle.std.proofs.lemmas.Int.{to_z-of_z}
use Rattle.std.proofs.lemmas.List.{get_or_read}
use mir.Syntax.{w64}
use mir.Val.{to_z, of_z}
use Rattle.flow_graph.specs.Contradiction.{in_set}
use Rattle.flow_solve.specs.Scales.{IsPassed}
use Rattle.flow_solve.proofs.Passed.{passed_aside, passed_spent, passed_closed}
use Rattle.flow_solve.proofs.scaling.drain_or_put_aside.Goals as goal

pub returns-then-index-clause-passed : goal.returns-then-index-clause-passed
returns-then-index-clause-passed g c =
    let there : c.args.n.0 < length c.args.room.now.aside.items = omega (arith, c.requires.there, c.requires.room.aside, c.args.room.now.aside.ok.0) in
    let aside : c.index.result.now ≡ true = search rules in
    passed_aside c.args.step c.args.s.now c.args.room.now.aside.items c.args.n.0 c.requires.passed
    (sym (get_or_read c.args.room.now.aside.items c.args.n.0 c.index.result.now there c.index.ensures false) ∙ aside)

pub returns-then-not-drain-clause-passed : goal.returns-then-not-drain-clause-passed
returns-then-not-drain-clause-passed g c =
    let step = to_z w64 (of_z w64 c.args.step) in
    let e = to_z-of_z w64 c.args.step c.ranges.step in
    let stuck : c.drain.result ≡ false = search rules in
    let before = subst (λ z. IsPassed z c.args.s.now c.args.room.now.aside.items c.args.n.0) (sym e) c.requires.passed in
    subst (λ z. IsPassed z c.drain.new.s c.put_aside.new.room.aside.items (c.args.n.0 + 1)) e
    (passed_closed step g.C.Cost.value_at c.args.s.now c.drain.new.s c.args.room.now.aside.items c.args.n.0 c.args.steps.now c.drain.new.steps before c.drain.ensures.underway
    c.drain.new.room.set.items c.drain.new.room.aside.items c.put_aside.new.room.aside.items c.drain.ensures.aside c.put_aside.ensures.added c.graph.ensures.kept.network.arcs_fit (c.drain.ensures.closed stuck))

pub returns-else-not-drain-clause-passed : goal.returns-else-not-drain-clause-passed
returns-else-not-drain-clause-passed g c =
    let step = to_z w64 (of_z w64 c.args.step) in
    let e = to_z-of_z w64 c.args.step c.ranges.step in
    let done : IsTrue c.drain.result = search rules in
    let before = subst (λ z. IsPassed z c.args.s.now c.args.room.now.aside.items c.args.n.0) (sym e) c.requires.passed in
    subst (λ z. IsPassed z c.drain.new.s c.drain.new.room.aside.items (c.args.n.0 + 1)) e
    (passed_spent step g.C.Cost.value_at c.args.s.now c.drain.new.s c.args.room.now.aside.items c.args.n.0 c.args.steps.now c.drain.new.steps before c.drain.ensures.underway
    c.drain.new.room.aside.items c.drain.ensures.aside (c.drain.ensures.spent done))
