use Rattle.std.proofs.Common.{◌<◌, arith}
use Rattle.flow_search.specs.Heap.{key_at}
use Rattle.flow_search.proofs.Heaps.{exchanged, exchanged_keys, sifts_twice, down_step}
use Rattle.flow_search.proofs.heap.sift_down.Goals as goal

pub loop-at-preserved : goal.loop-at-preserved
loop-at-preserved c =
    let there = c.nearer_below-below.ensures.there in
    let at : c.loop-at.at < c.args.count = omega (arith, there.0, there.1) in
    let keys = exchanged_keys c.loop-at.nodes c.exchange.new.nodes c.loop-at.at c.nearer_below-below.result c.exchange.ensures.nodes c.args.dist.now in
    record {
      low = omega (arith, there.0);
      sifts = sifts_twice c.args.nodes.now c.loop-at.nodes c.exchange.new.nodes c.args.place.now c.loop-at.place c.exchange.new.place c.args.count c.loop-at.invariant.sifts
          (exchanged c.loop-at.nodes c.exchange.new.nodes c.loop-at.place c.exchange.new.place c.loop-at.at c.nearer_below-below.result c.args.count c.exchange.ensures.nodes c.exchange.ensures.places at there.0);
      heap = down_step (key_at c.args.dist.now c.loop-at.nodes) (key_at c.args.dist.now c.exchange.new.nodes) c.args.count c.loop-at.at c.nearer_below-below.result keys.0 keys.1 keys.2
          there.2 (omega (arith, there.1)) there.0 (c.is_as_near.ensures.nearer c.if-is_as_near.false) c.nearer_below-below.ensures.nearer c.loop-at.invariant.heap;
    }
