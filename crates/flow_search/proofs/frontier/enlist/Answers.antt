use Rattle.std.proofs.Common.{◌≡◌, length, arith}
use Rattle.std.proofs.lemmas.Int.{to_z-of_z}
use mir.Syntax.{w128}
use Rattle.flow_search.proofs.Lists.{ready_listed, ready_all_listed, heap_listed, heap_all_listed}
use Rattle.flow_search.proofs.frontier.enlist.Goals as goal

pub returns-then-is_no_further-clause-kept : goal.returns-then-is_no_further-clause-kept
returns-then-is_no_further-clause-kept c =
    let e : length c.push_ready.new.nodes ≡ length c.args.nodes.now = omega (arith, c.push_ready.auto.nodes) in
    ready_listed c.args.dist.now c.args.nodes.now c.push_ready.new.nodes c.args.place.now c.args.waiting.now c.args.at c.args.v.0 c.requires.there c.requires.reached c.requires.kept c.requires.added e
    c.push_ready.new.ready c.push_ready.ensures.more (rw (to_z-of_z w128 c.args.at c.ranges.at) at (c.is_no_further.ensures c.if-is_no_further.true)) c.push_ready.ensures.before c.push_ready.ensures.no_more

pub returns-then-is_no_further-clause-listed : goal.returns-then-is_no_further-clause-listed
returns-then-is_no_further-clause-listed c =
    let e : length c.push_ready.new.nodes ≡ length c.args.nodes.now = omega (arith, c.push_ready.auto.nodes) in
    ready_all_listed c.args.dist.now c.args.nodes.now c.push_ready.new.nodes c.args.place.now c.args.waiting.now c.args.at c.args.v.0 c.requires.there c.requires.reached c.requires.kept c.requires.added e
    c.push_ready.new.ready c.push_ready.ensures.more (rw (to_z-of_z w128 c.args.at c.ranges.at) at (c.is_no_further.ensures c.if-is_no_further.true)) c.push_ready.ensures.before c.push_ready.ensures.kept

pub returns-else-is_no_further-clause-kept : goal.returns-else-is_no_further-clause-kept
returns-else-is_no_further-clause-kept c =
    let e : length c.bring_in.new.nodes ≡ length c.args.nodes.now = omega (arith, c.bring_in.auto.nodes) in
    let f : length c.bring_in.new.place ≡ length c.args.place.now = omega (arith, c.bring_in.auto.place) in
    heap_listed c.args.dist.now c.args.nodes.now c.bring_in.new.nodes c.args.place.now c.args.waiting.now c.args.at c.args.v.0 c.requires.there c.requires.reached c.requires.kept c.requires.added e
    c.bring_in.new.place c.bring_in.new.count c.bring_in.ensures.more f c.bring_in.ensures.beyond c.bring_in.ensures.queue c.bring_in.ensures.no_more

pub returns-else-is_no_further-clause-listed : goal.returns-else-is_no_further-clause-listed
returns-else-is_no_further-clause-listed c =
    let e : length c.bring_in.new.nodes ≡ length c.args.nodes.now = omega (arith, c.bring_in.auto.nodes) in
    let f : length c.bring_in.new.place ≡ length c.args.place.now = omega (arith, c.bring_in.auto.place) in
    heap_all_listed c.args.dist.now c.args.nodes.now c.bring_in.new.nodes c.args.place.now c.args.waiting.now c.args.at c.args.v.0 c.requires.there c.requires.reached c.requires.kept c.requires.added e
    c.bring_in.new.place c.bring_in.new.count c.bring_in.ensures.more f c.bring_in.ensures.beyond c.bring_in.ensures.kept
