use Rattle.std.proofs.Common.{◌≡◌, ◌+◌, ◌-◌, length, set, false, pos, negsuc, ap, arith}
use Rattle.std.specs.Prelude.{replicate}
use Rattle.flow_search.specs.Labels.{Labels}
use Rattle.flow_search.proofs.Lists.{started_lists, moved_start}
use Rattle.flow_search.proofs.frontier.start.Goals as goal

pub returns-clause-lists : goal.returns-clause-lists
returns-clause-lists c =
    let n = c.args.room.now.set.len in
    let room = c.clear.new.room in
    let g : (c.len-last.result - 1) + 1 ≡ n = omega (arith, c.clear.ensures.room.heap, c.requires.there) in
    let e : length room.heap.items ≡ n = omega (arith, c.clear.ensures.room.heap, c.clear.new.room.heap.ok.0) in
    let f : length room.place.items ≡ n = omega (arith, c.clear.ensures.room.place, c.clear.new.room.place.ok.0) in
    moved_start (replicate n false) room.set.items (set (replicate n (negsuc 0)) c.args.source.0 (pos 0)) room.dist.items (set room.heap.items (c.len-last.result - 1) c.args.source) room.place.items (record { heaped = 0; ready = 1 })
    (ap (λ (l : Labels). l.set) c.clear.ensures.labels) (ap (λ (l : Labels). l.dist) c.clear.ensures.labels)
    (started_lists n (c.len-last.result - 1) room.heap.items room.place.items c.args.source g e f c.requires.there)
