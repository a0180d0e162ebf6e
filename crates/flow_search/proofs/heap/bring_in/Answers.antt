use Rattle.std.proofs.Common.{◌+◌, arith}
use Rattle.flow_search.proofs.Heaps.{added, added_back}
use Rattle.flow_search.proofs.heap.bring_in.Goals as goal

pub returns-clause-kept : goal.returns-clause-kept
returns-clause-kept c = λ w m. (c.sift_up.ensures.sifts (c.args.count.now + 1) (omega arith)).reordered.kept w (added c.args.nodes.now c.args.count.now c.args.v c.requires.counted w m)

pub returns-clause-no_more : goal.returns-clause-no_more
returns-clause-no_more c = λ w m. added_back c.args.nodes.now c.args.count.now c.args.v c.requires.counted w ((c.sift_up.ensures.sifts (c.args.count.now + 1) (omega arith)).reordered.no_more w m)
