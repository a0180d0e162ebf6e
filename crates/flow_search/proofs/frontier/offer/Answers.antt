use Rattle.std.proofs.Common.{◌≡◌, ◌<◌, ◌≤ℤ◌, ◌<ℤ◌, length, get_or, set, ap, sym, subst, ◌∙◌, refl, arith, rules, pos, negsuc}
use Rattle.std.proofs.lemmas.Int.{ints, to_z-of_z}
use Rattle.std.proofs.lemmas.List.{get_or_read, take_at}
use mir.Syntax.{w128}
use mir.Val.{to_z, of_z, SFits}
use Rattle.flow_search.specs.Frontier.{Accepts, AreListed}
use Rattle.flow_search.specs.Labels.{Labels, labels_of}
use Rattle.flow_search.proofs.Lists.{heap_without, heap_but_at, kept_now, listed_now, listed_again, moved_lists}
use Rattle.flow_search.proofs.frontier.offer.Goals as goal

pub lift-requires-clause-apart : goal.lift-requires-clause-apart
lift-requires-clause-apart c =
    let fit : to_z w128 (of_z w128 c.args.d) ≡ c.args.d = to_z-of_z w128 c.args.d c.ranges.d in
    let acc : Accepts (labels_of c.args.room.now) (labels_of c.improve.new.room) c.args.v.0 c.args.d c.args.a = rw fit at (c.improve.ensures.accepts c.if-not-improve.false) in
    let there : c.args.v.0 < length c.args.room.now.dist.items = subst (λ z. c.args.v.0 < z) (sym c.requires.room.dist ∙ c.args.room.now.dist.ok.0) c.requires.there in
    let f : SFits w128 c.index.result.now = search rules in
    let read : to_z w128 (of_z w128 c.index.result.now) ≡ get_or c.args.room.now.dist.items c.args.v.0 (negsuc 0) =
    to_z-of_z w128 c.index.result.now f ∙ get_or_read c.args.room.now.dist.items c.args.v.0 c.index.result.now there c.index.ensures (negsuc 0) in
    let set_is : c.improve.new.room.set.items ≡ c.args.room.now.set.items = ap (λ (l : Labels). l.set) acc.new_is in
    let dist_is : c.improve.new.room.dist.items ≡ set c.args.room.now.dist.items c.args.v.0 c.args.d = ap (λ (l : Labels). l.dist) acc.new_is in
    let heap_is : c.improve.new.room.heap.items ≡ c.args.room.now.heap.items = ap (λ z. z.items) c.improve.ensures.nodes in
    let place_is : c.improve.new.room.place.items ≡ c.args.room.now.place.items = ap (λ z. z.items) c.improve.ensures.places in
    let behind : c.deref.result.now ≡ c.improve.new.room.dist.items = (let u = c.deref.ensures.value in cc) in
    let new_is : c.deref.result.now ≡ set c.args.room.now.dist.items c.args.v.0 c.args.d = behind ∙ dist_is in
    let nodes_is : c.deref_mut.result.now ≡ c.args.room.now.heap.items = (let u = c.deref_mut.ensures.value in cc) in
    let places_is : c.deref_mut-then-known.result.now ≡ c.args.room.now.place.items = (let u = c.deref_mut-then-known.ensures.value in cc) in
    let h : AreListed c.args.room.now.set.items c.args.room.now.dist.items c.deref_mut.result.now c.deref_mut-then-known.result.now c.args.waiting.now c.args.at =
    moved_lists c.args.room.now.set.items c.args.room.now.set.items c.args.room.now.dist.items c.args.room.now.dist.items c.args.room.now.heap.items c.deref_mut.result.now c.args.room.now.place.items c.deref_mut-then-known.result.now c.args.waiting.now c.args.at
    refl refl nodes_is places_is c.requires.lists in
    let before : pos 0 ≤ℤ get_or c.args.room.now.dist.items c.args.v.0 (negsuc 0) = first_of (omega (arith, ints, read, c.if-known.true), grind (arith, ints, read, c.if-known.true)) in
    let nearer : c.args.d <ℤ get_or c.args.room.now.dist.items c.args.v.0 (negsuc 0) = acc.further (record { nonneg = before }) in
    heap_without c.args.room.now.set.items c.args.room.now.dist.items c.deref.result.now c.deref_mut.result.now c.deref_mut-then-known.result.now c.args.waiting.now c.args.at c.args.d c.args.v.0 there c.requires.low new_is h before nearer

pub lift-requires-clause-at : goal.lift-requires-clause-at
lift-requires-clause-at c =
    let fit : to_z w128 (of_z w128 c.args.d) ≡ c.args.d = to_z-of_z w128 c.args.d c.ranges.d in
    let acc : Accepts (labels_of c.args.room.now) (labels_of c.improve.new.room) c.args.v.0 c.args.d c.args.a = rw fit at (c.improve.ensures.accepts c.if-not-improve.false) in
    let there : c.args.v.0 < length c.args.room.now.dist.items = subst (λ z. c.args.v.0 < z) (sym c.requires.room.dist ∙ c.args.room.now.dist.ok.0) c.requires.there in
    let f : SFits w128 c.index.result.now = search rules in
    let read : to_z w128 (of_z w128 c.index.result.now) ≡ get_or c.args.room.now.dist.items c.args.v.0 (negsuc 0) =
    to_z-of_z w128 c.index.result.now f ∙ get_or_read c.args.room.now.dist.items c.args.v.0 c.index.result.now there c.index.ensures (negsuc 0) in
    let set_is : c.improve.new.room.set.items ≡ c.args.room.now.set.items = ap (λ (l : Labels). l.set) acc.new_is in
    let dist_is : c.improve.new.room.dist.items ≡ set c.args.room.now.dist.items c.args.v.0 c.args.d = ap (λ (l : Labels). l.dist) acc.new_is in
    let heap_is : c.improve.new.room.heap.items ≡ c.args.room.now.heap.items = ap (λ z. z.items) c.improve.ensures.nodes in
    let place_is : c.improve.new.room.place.items ≡ c.args.room.now.place.items = ap (λ z. z.items) c.improve.ensures.places in
    let behind : c.deref.result.now ≡ c.improve.new.room.dist.items = (let u = c.deref.ensures.value in cc) in
    let new_is : c.deref.result.now ≡ set c.args.room.now.dist.items c.args.v.0 c.args.d = behind ∙ dist_is in
    let nodes_is : c.deref_mut.result.now ≡ c.args.room.now.heap.items = (let u = c.deref_mut.ensures.value in cc) in
    let places_is : c.deref_mut-then-known.result.now ≡ c.args.room.now.place.items = (let u = c.deref_mut-then-known.ensures.value in cc) in
    let h : AreListed c.args.room.now.set.items c.args.room.now.dist.items c.deref_mut.result.now c.deref_mut-then-known.result.now c.args.waiting.now c.args.at =
    moved_lists c.args.room.now.set.items c.args.room.now.set.items c.args.room.now.dist.items c.args.room.now.dist.items c.args.room.now.heap.items c.deref_mut.result.now c.args.room.now.place.items c.deref_mut-then-known.result.now c.args.waiting.now c.args.at
    refl refl nodes_is places_is c.requires.lists in
    let before : pos 0 ≤ℤ get_or c.args.room.now.dist.items c.args.v.0 (negsuc 0) = first_of (omega (arith, ints, read, c.if-known.true), grind (arith, ints, read, c.if-known.true)) in
    let nearer : c.args.d <ℤ get_or c.args.room.now.dist.items c.args.v.0 (negsuc 0) = acc.further (record { nonneg = before }) in
    heap_but_at c.args.room.now.set.items c.args.room.now.dist.items c.deref.result.now c.deref_mut.result.now c.deref_mut-then-known.result.now c.args.waiting.now c.args.at c.args.d c.args.v.0 there c.requires.low new_is h before nearer

pub returns-then-known-clause-lists : goal.returns-then-known-clause-lists
returns-then-known-clause-lists c =
    let fit : to_z w128 (of_z w128 c.args.d) ≡ c.args.d = to_z-of_z w128 c.args.d c.ranges.d in
    let acc : Accepts (labels_of c.args.room.now) (labels_of c.improve.new.room) c.args.v.0 c.args.d c.args.a = rw fit at (c.improve.ensures.accepts c.if-not-improve.false) in
    let there : c.args.v.0 < length c.args.room.now.dist.items = subst (λ z. c.args.v.0 < z) (sym c.requires.room.dist ∙ c.args.room.now.dist.ok.0) c.requires.there in
    let f : SFits w128 c.index.result.now = search rules in
    let read : to_z w128 (of_z w128 c.index.result.now) ≡ get_or c.args.room.now.dist.items c.args.v.0 (negsuc 0) =
    to_z-of_z w128 c.index.result.now f ∙ get_or_read c.args.room.now.dist.items c.args.v.0 c.index.result.now there c.index.ensures (negsuc 0) in
    let set_is : c.improve.new.room.set.items ≡ c.args.room.now.set.items = ap (λ (l : Labels). l.set) acc.new_is in
    let dist_is : c.improve.new.room.dist.items ≡ set c.args.room.now.dist.items c.args.v.0 c.args.d = ap (λ (l : Labels). l.dist) acc.new_is in
    let heap_is : c.improve.new.room.heap.items ≡ c.args.room.now.heap.items = ap (λ z. z.items) c.improve.ensures.nodes in
    let place_is : c.improve.new.room.place.items ≡ c.args.room.now.place.items = ap (λ z. z.items) c.improve.ensures.places in
    let behind : c.deref.result.now ≡ c.improve.new.room.dist.items = (let u = c.deref.ensures.value in cc) in
    let new_is : c.deref.result.now ≡ set c.args.room.now.dist.items c.args.v.0 c.args.d = behind ∙ dist_is in
    let nodes_is : c.deref_mut.result.now ≡ c.args.room.now.heap.items = (let u = c.deref_mut.ensures.value in cc) in
    let places_is : c.deref_mut-then-known.result.now ≡ c.args.room.now.place.items = (let u = c.deref_mut-then-known.ensures.value in cc) in
    let h : AreListed c.args.room.now.set.items c.args.room.now.dist.items c.deref_mut.result.now c.deref_mut-then-known.result.now c.args.waiting.now c.args.at =
    moved_lists c.args.room.now.set.items c.args.room.now.set.items c.args.room.now.dist.items c.args.room.now.dist.items c.args.room.now.heap.items c.deref_mut.result.now c.args.room.now.place.items c.deref_mut-then-known.result.now c.args.waiting.now c.args.at
    refl refl nodes_is places_is c.requires.lists in
    let before : pos 0 ≤ℤ get_or c.args.room.now.dist.items c.args.v.0 (negsuc 0) = first_of (omega (arith, ints, read, c.if-known.true), grind (arith, ints, read, c.if-known.true)) in
    let nearer : c.args.d <ℤ get_or c.args.room.now.dist.items c.args.v.0 (negsuc 0) = acc.further (record { nonneg = before }) in
    let long : length c.lift.new.nodes ≡ c.improve.new.room.heap.len = omega (arith, c.lift.auto.nodes, c.deref_mut.ensures.len) in
    let long_places : length c.lift.new.place ≡ c.improve.new.room.place.len = omega (arith, c.lift.auto.place, c.deref_mut-then-known.ensures.len) in
    moved_lists c.args.room.now.set.items c.improve.new.room.set.items c.deref.result.now c.improve.new.room.dist.items c.lift.new.nodes _ c.lift.new.place _ c.args.waiting.now c.args.at
    set_is (sym behind) (take_at c.lift.new.nodes _ _ long) (take_at c.lift.new.place _ _ long_places)
    (listed_again c.args.room.now.set.items c.args.room.now.dist.items c.deref.result.now c.deref_mut.result.now c.deref_mut-then-known.result.now c.args.waiting.now c.args.at c.args.d c.args.v.0 there c.requires.low new_is h before nearer c.lift.new.nodes c.lift.new.place (omega (arith, c.lift.auto.nodes)) (omega (arith, c.lift.auto.place)) c.lift.ensures.queue c.lift.ensures.nodes)

pub enlist-requires-clause-kept : goal.enlist-requires-clause-kept
enlist-requires-clause-kept c =
    let fit : to_z w128 (of_z w128 c.args.d) ≡ c.args.d = to_z-of_z w128 c.args.d c.ranges.d in
    let acc : Accepts (labels_of c.args.room.now) (labels_of c.improve.new.room) c.args.v.0 c.args.d c.args.a = rw fit at (c.improve.ensures.accepts c.if-not-improve.false) in
    let there : c.args.v.0 < length c.args.room.now.dist.items = subst (λ z. c.args.v.0 < z) (sym c.requires.room.dist ∙ c.args.room.now.dist.ok.0) c.requires.there in
    let f : SFits w128 c.index.result.now = search rules in
    let read : to_z w128 (of_z w128 c.index.result.now) ≡ get_or c.args.room.now.dist.items c.args.v.0 (negsuc 0) =
    to_z-of_z w128 c.index.result.now f ∙ get_or_read c.args.room.now.dist.items c.args.v.0 c.index.result.now there c.index.ensures (negsuc 0) in
    let set_is : c.improve.new.room.set.items ≡ c.args.room.now.set.items = ap (λ (l : Labels). l.set) acc.new_is in
    let dist_is : c.improve.new.room.dist.items ≡ set c.args.room.now.dist.items c.args.v.0 c.args.d = ap (λ (l : Labels). l.dist) acc.new_is in
    let heap_is : c.improve.new.room.heap.items ≡ c.args.room.now.heap.items = ap (λ z. z.items) c.improve.ensures.nodes in
    let place_is : c.improve.new.room.place.items ≡ c.args.room.now.place.items = ap (λ z. z.items) c.improve.ensures.places in
    let behind : c.deref-else-known.result.now ≡ c.improve.new.room.dist.items = (let u = c.deref-else-known.ensures.value in cc) in
    let new_is : c.deref-else-known.result.now ≡ set c.args.room.now.dist.items c.args.v.0 c.args.d = behind ∙ dist_is in
    let nodes_is : c.deref_mut-else-known.result.now ≡ c.args.room.now.heap.items = (let u = c.deref_mut-else-known.ensures.value in cc) in
    let places_is : c.deref_mut-else-known-2.result.now ≡ c.args.room.now.place.items = (let u = c.deref_mut-else-known-2.ensures.value in cc) in
    let h : AreListed c.args.room.now.set.items c.args.room.now.dist.items c.deref_mut-else-known.result.now c.deref_mut-else-known-2.result.now c.args.waiting.now c.args.at =
    moved_lists c.args.room.now.set.items c.args.room.now.set.items c.args.room.now.dist.items c.args.room.now.dist.items c.args.room.now.heap.items c.deref_mut-else-known.result.now c.args.room.now.place.items c.deref_mut-else-known-2.result.now c.args.waiting.now c.args.at
    refl refl nodes_is places_is c.requires.lists in
    let before : get_or c.args.room.now.dist.items c.args.v.0 (negsuc 0) <ℤ pos 0 = first_of (omega (arith, ints, read, c.if-known.false), grind (arith, ints, read, c.if-known.false)) in
    rw (to_z-of_z w128 c.args.at c.ranges.at) (kept_now c.args.room.now.set.items c.args.room.now.dist.items c.deref-else-known.result.now c.deref_mut-else-known.result.now c.deref_mut-else-known-2.result.now c.args.waiting.now c.args.at c.args.d c.args.v.0 there c.requires.low new_is h before)

pub returns-else-known-clause-lists : goal.returns-else-known-clause-lists
returns-else-known-clause-lists c =
    let fit : to_z w128 (of_z w128 c.args.d) ≡ c.args.d = to_z-of_z w128 c.args.d c.ranges.d in
    let acc : Accepts (labels_of c.args.room.now) (labels_of c.improve.new.room) c.args.v.0 c.args.d c.args.a = rw fit at (c.improve.ensures.accepts c.if-not-improve.false) in
    let there : c.args.v.0 < length c.args.room.now.dist.items = subst (λ z. c.args.v.0 < z) (sym c.requires.room.dist ∙ c.args.room.now.dist.ok.0) c.requires.there in
    let f : SFits w128 c.index.result.now = search rules in
    let read : to_z w128 (of_z w128 c.index.result.now) ≡ get_or c.args.room.now.dist.items c.args.v.0 (negsuc 0) =
    to_z-of_z w128 c.index.result.now f ∙ get_or_read c.args.room.now.dist.items c.args.v.0 c.index.result.now there c.index.ensures (negsuc 0) in
    let set_is : c.improve.new.room.set.items ≡ c.args.room.now.set.items = ap (λ (l : Labels). l.set) acc.new_is in
    let dist_is : c.improve.new.room.dist.items ≡ set c.args.room.now.dist.items c.args.v.0 c.args.d = ap (λ (l : Labels). l.dist) acc.new_is in
    let heap_is : c.improve.new.room.heap.items ≡ c.args.room.now.heap.items = ap (λ z. z.items) c.improve.ensures.nodes in
    let place_is : c.improve.new.room.place.items ≡ c.args.room.now.place.items = ap (λ z. z.items) c.improve.ensures.places in
    let behind : c.deref-else-known.result.now ≡ c.improve.new.room.dist.items = (let u = c.deref-else-known.ensures.value in cc) in
    let new_is : c.deref-else-known.result.now ≡ set c.args.room.now.dist.items c.args.v.0 c.args.d = behind ∙ dist_is in
    let nodes_is : c.deref_mut-else-known.result.now ≡ c.args.room.now.heap.items = (let u = c.deref_mut-else-known.ensures.value in cc) in
    let places_is : c.deref_mut-else-known-2.result.now ≡ c.args.room.now.place.items = (let u = c.deref_mut-else-known-2.ensures.value in cc) in
    let h : AreListed c.args.room.now.set.items c.args.room.now.dist.items c.deref_mut-else-known.result.now c.deref_mut-else-known-2.result.now c.args.waiting.now c.args.at =
    moved_lists c.args.room.now.set.items c.args.room.now.set.items c.args.room.now.dist.items c.args.room.now.dist.items c.args.room.now.heap.items c.deref_mut-else-known.result.now c.args.room.now.place.items c.deref_mut-else-known-2.result.now c.args.waiting.now c.args.at
    refl refl nodes_is places_is c.requires.lists in
    let before : get_or c.args.room.now.dist.items c.args.v.0 (negsuc 0) <ℤ pos 0 = first_of (omega (arith, ints, read, c.if-known.false), grind (arith, ints, read, c.if-known.false)) in
    let long : length c.enlist.new.nodes ≡ c.improve.new.room.heap.len = omega (arith, c.enlist.auto.nodes, c.deref_mut-else-known.ensures.len) in
    let long_places : length c.enlist.new.place ≡ c.improve.new.room.place.len = omega (arith, c.enlist.auto.place, c.deref_mut-else-known-2.ensures.len) in
    moved_lists c.args.room.now.set.items c.improve.new.room.set.items c.deref-else-known.result.now c.improve.new.room.dist.items c.enlist.new.nodes _ c.enlist.new.place _ c.enlist.new.waiting c.args.at
    set_is (sym behind) (take_at c.enlist.new.nodes _ _ long) (take_at c.enlist.new.place _ _ long_places)
    (listed_now c.args.room.now.set.items c.args.room.now.dist.items c.deref-else-known.result.now c.deref_mut-else-known.result.now c.deref_mut-else-known-2.result.now c.args.waiting.now c.args.at c.args.d c.args.v.0 there c.requires.low new_is h before c.enlist.new.nodes c.enlist.new.place c.enlist.new.waiting (rw (to_z-of_z w128 c.args.at c.ranges.at) at c.enlist.ensures.kept) c.enlist.ensures.listed)
