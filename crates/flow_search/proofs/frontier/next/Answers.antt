use Rattle.std.proofs.Common.{◌≡◌, length, arith}
use Rattle.flow_search.proofs.Lists.{taken_of}
use Rattle.flow_search.proofs.frontier.next.Goals as goal

pub returns-clause-lists : goal.returns-clause-lists
returns-clause-lists c =
    let e : length c.pop_heap.new.nodes ≡ length c.args.nodes.now = omega (arith, c.pop_heap.auto.nodes) in
    let f : length c.pop_heap.new.place ≡ length c.args.place.now = omega (arith, c.pop_heap.auto.place) in
    taken_of c.args.set.now c.args.dist.now c.args.nodes.now c.args.place.now c.args.waiting.now c.requires.lists c.requires.same c.pop_ready.new.ready c.pop_ready.ensures.fewer
    c.in_default.ensures.popped c.in_default.ensures.rest c.pop_heap.result c.pop_heap.new.nodes c.pop_heap.new.place c.pop_heap.new.heaped e f
    c.pop_heap.ensures.fewer c.pop_heap.ensures.queue c.pop_heap.ensures.no_more c.pop_heap.ensures.popped c.pop_heap.ensures.rest
