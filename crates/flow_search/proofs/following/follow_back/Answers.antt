use Rattle.std.proofs.Common.{◌≡◌, sym, subst, refl, arith, false}
use Rattle.std.proofs.lemmas.Int.{to_z-of_z}
use Rattle.std.proofs.lemmas.List.{get_or_read}
use mir.Syntax.{w64}
use mir.Val.{to_z, of_z}
use Rattle.flow_graph.specs.Contradiction.{in_set}
use Rattle.flow_search.specs.Following.{IsEnteredFrom}
use Rattle.flow_search.proofs.Followed.{IsFollowed, followed_none, followed_more, followed_path}
use Rattle.flow_search.proofs.following.follow_back.Goals as goal

pub loop-turn-init : goal.loop-turn-init
loop-turn-init g c = record {
  room = record { set = c.requires.room.set; dist = c.requires.room.dist; by = c.requires.room.by; heap = c.requires.room.heap; place = c.requires.room.place; aside = c.requires.room.aside };
  there = c.requires.last;
  by = refl;
  source = refl;
  last = refl;
  aside = refl;
  followed = followed_none g.C.Cost.value_at (to_z w64 (of_z w64 c.args.step)) c.args.s.now _ _ c.args.room.now.last.0;
}

pub returns-then-n-room-clause-path : goal.returns-then-n-room-clause-path
returns-then-n-room-clause-path g c =
    let read = get_or_read c.loop-turn.room.set.items c.loop-turn.n.0 c.index.result.now (omega (arith, c.loop-turn.invariant.there, c.loop-turn.invariant.room.set, c.loop-turn.room.set.ok.0)) c.index.ensures false in
    let test = c.if-index.false in
    let unmarked : in_set c.loop-turn.room.set.items c.loop-turn.n.0 ≡ false = cc in
    let way = rw (to_z-of_z w64 c.args.step c.ranges.step) at c.loop-turn.invariant.followed in
    λ _. followed_path g.C.Cost.value_at c.args.step c.args.s.now c.args.room.now c.loop-turn.room c.loop-turn.room.set.items c.loop-turn.n.0
    (subst (λ z. IsFollowed g.C.Cost.value_at c.args.step c.args.s.now c.args.room.now c.loop-turn.room.set.items c.loop-turn.n.0 z.0) (sym c.loop-turn.invariant.last) way)
    unmarked c.if-n-room.true c.loop-turn.invariant.by

pub loop-turn-preserved : goal.loop-turn-preserved
loop-turn-preserved g c =
    let read = get_or_read c.loop-turn.room.set.items c.loop-turn.n.0 c.index.result.now (omega (arith, c.loop-turn.invariant.there, c.loop-turn.invariant.room.set, c.loop-turn.room.set.ok.0)) c.index.ensures false in
    let test = c.if-index.false in
    let unmarked : in_set c.loop-turn.room.set.items c.loop-turn.n.0 ≡ false = cc in
    let r = c.loop-turn.invariant.room in
    let entered = subst (λ z. IsEnteredFrom g.C.Cost.value_at (to_z w64 (of_z w64 c.args.step)) c.args.s.now z c.in-Some.u.0 c.loop-turn.n.0) c.loop-turn.invariant.by c.in-Some.ensures.step in
    record {
      room = record { set = r.set; dist = r.dist; by = r.by; heap = r.heap; place = r.place; aside = r.aside };
      there = c.in-Some.ensures.there;
      by = c.loop-turn.invariant.by;
      source = c.loop-turn.invariant.source;
      last = c.loop-turn.invariant.last;
      aside = c.loop-turn.invariant.aside;
      followed = followed_more g.C.Cost.value_at (to_z w64 (of_z w64 c.args.step)) c.args.s.now _ c.loop-turn.room.set.items c.in-Some.u.0 c.loop-turn.n.0 c.args.room.now.last.0
          c.loop-turn.invariant.followed unmarked (omega (arith, c.loop-turn.invariant.there, r.set, c.loop-turn.room.set.ok.0)) entered;
    }
