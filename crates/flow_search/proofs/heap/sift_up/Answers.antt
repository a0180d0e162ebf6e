use Rattle.std.proofs.Common.{◌+◌, ◌<◌, refl, arith}
use Rattle.flow_search.specs.Heap.{parent, key_at}
use Rattle.flow_search.proofs.Heaps.{exchanged, exchanged_keys, sifts_twice, up_step}
use Rattle.flow_search.proofs.heap.sift_up.Goals as goal

pub loop-at-preserved : goal.loop-at-preserved
loop-at-preserved c =
    let low : parent c.loop-at.at < c.loop-at.at = omega arith in
    let at : c.loop-at.at < c.args.start + 1 = omega arith in
    record {
      low = omega arith;
      sifts = λ n l. sifts_twice c.args.nodes.now c.loop-at.nodes c.exchange.new.nodes c.args.place.now c.loop-at.place c.exchange.new.place n (c.loop-at.invariant.sifts n l)
          (exchanged c.loop-at.nodes c.exchange.new.nodes c.loop-at.place c.exchange.new.place (parent c.loop-at.at) c.loop-at.at n c.exchange.ensures.nodes c.exchange.ensures.places (omega (arith, low, at, l)) (omega (arith, at, l)));
      heap = λ n l h.
          let keys = exchanged_keys c.loop-at.nodes c.exchange.new.nodes (parent c.loop-at.at) c.loop-at.at c.exchange.ensures.nodes c.args.dist.now in
          up_step (key_at c.args.dist.now c.loop-at.nodes) (key_at c.args.dist.now c.exchange.new.nodes) n (parent c.loop-at.at) c.loop-at.at keys.0 keys.1 keys.2
          refl (omega arith) (omega (arith, at, l)) (c.is_as_near.ensures.nearer c.if-is_as_near.false) (c.loop-at.invariant.heap n l h);
    }
