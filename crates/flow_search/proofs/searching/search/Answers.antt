use Rattle.std.proofs.Common.{Bool, false, ◌-◌, ◌≡◌, ◌<◌, ◌≤◌, ◌+◌, ◌*◌, ◌^◌, ℕ, length, ap, sym, subst, ◌∙◌, refl, pos, ◌-ℤ◌, arith, slice_get, Some, ◌↔◌, true, count_by}
use Rattle.std.proofs.lemmas.Int.{to_z-of_z}
use Rattle.std.proofs.lemmas.List.Sums.{count_by-le-length}
use mir.Syntax.{w64, w128}
use mir.Val.{to_z, of_z}
use Rattle.flow_graph.specs.Condition.{ArePotentials}
use Rattle.flow_residual.specs.Flows.{MeetsAll}
use Rattle.flow_residual.specs.Path.{IsSink, Reaches}
use Rattle.flow_residual.specs.Rooms.{IsRoomFor}
use Rattle.flow_residual.specs.Edges.{potential_at}
use Rattle.flow_search.specs.Labels.{labels_of, distance, IsSearched, IsRelaxing, RelaxesAll}
use Rattle.flow_search.specs.Frontier.{IsGain}
use Rattle.flow_search.proofs.Labelled.{taken, searched_on, more_settled}
use Rattle.flow_search.proofs.Ways.{started, with_potentials}
use Rattle.flow_search.proofs.Endings.{end_read, ended, end_reached, end_distance, no_sink_reached, set_is_reached}
use Rattle.flow_search.proofs.searching.search.Goals as goal

not_both : (t : Bool) → t ≡ true → t ≡ false → ⊥
not_both t e f = cc

-- so many are settled that one more is no more than all
one_less : (before after all most : ℕ) → after ≡ before + 1 → after ≤ most → most ≡ all → all - after < all - before
one_less before after all most e l k = omega (arith, e, l, k)

pub loop-u-init : goal.loop-u-init
loop-u-init g c =
    let sized : c.meets.new.room.set.len ≡ length c.args.s.now.graph.nodes = c.meets.ensures.room.set in
    let there : c.args.source.0 < c.meets.new.room.set.len = subst (λ z. c.args.source.0 < z) (sym sized) c.requires.source in
    record {
      room = subst (λ z. IsRoomFor z c.start-waiting.new.room) sized c.start-waiting.ensures.room;
      state = refl;
      source = c.start-waiting.ensures.source;
      lists = c.start-waiting.ensures.lists;
      aside = c.start-waiting.ensures.aside ∙ c.meets.ensures.aside;
      searched = rw (to_z-of_z w64 c.args.step c.ranges.step, c.start-waiting.ensures.labels) (started g.C.Cost.value_at c.args.step c.args.s.now c.meets.new.room.set.len c.args.source.0 there sized);
    }

pub returns-then-meets-clause-closed : goal.returns-then-meets-clause-closed
returns-then-meets-clause-closed g c =
    let found = c.meets.ensures.path c.if-meets.true in
    let ends = c.meets.ensures.ends c.if-meets.true in
    let way : Reaches c.args.s.now c.args.step c.args.source.0 c.meets.new.room.last.0 = rw (to_z-of_z w64 c.args.step c.ranges.step) at (subst (λ z. Reaches c.args.s.now (to_z w64 (of_z w64 c.args.step)) z.0 c.meets.new.room.last.0) ends.0 (found.0, found.1.path)) in
    (λ e. absurd (cc), λ h. absurd (h c.meets.new.room.last.0 ends.1 (rw (to_z-of_z w64 c.args.step c.ranges.step) at ends.2) way))

pub take_nearest-requires-clause-room : goal.take_nearest-requires-clause-room
take_nearest-requires-clause-room g c = subst (λ z. IsRoomFor z c.loop-u.room) (sym c.loop-u.invariant.room.set) c.loop-u.invariant.room

pub take_nearest-requires-clause-small : goal.take_nearest-requires-clause-small
take_nearest-requires-clause-small g c = subst (λ z. z ≤ 262_144) (sym c.loop-u.invariant.room.set) c.graph.ensures.kept.network.node_limit

pub lacks-requires-clause-there : goal.lacks-requires-clause-there
lacks-requires-clause-there g c =
    let there : c.in-Some.u.0 < length c.args.s.now.graph.nodes = subst (λ z. c.in-Some.u.0 < z) c.loop-u.invariant.room.set c.in-Some.ensures.there in
    subst (λ z. c.in-Some.u.0 < length z.graph.nodes) (sym c.loop-u.invariant.state) there

pub raise-requires-clause-potentials : goal.raise-requires-clause-potentials
raise-requires-clause-potentials g c = subst (λ z. ArePotentials (pos (2 * 10 ^ 22)) (length z.graph.nodes) z.potentials) (sym c.loop-u.invariant.state) c.requires.potentials

pub raise-requires-clause-high : goal.raise-requires-clause-high
raise-requires-clause-high g c =
    let there : c.in-Some.u.0 < length c.args.s.now.graph.nodes = subst (λ z. c.in-Some.u.0 < z) c.loop-u.invariant.room.set c.in-Some.ensures.there in
    let searched : IsSearched g.C.Cost.value_at c.args.step c.args.s.now (labels_of c.loop-u.room) = rw (to_z-of_z w64 c.args.step c.ranges.step) at c.loop-u.invariant.searched in
    let top : to_z w128 (of_z w128 c.index-top.result.now) ≡ distance (labels_of c.take_nearest.new.room) c.in-Some.u.0 =
    end_read g.C.Cost.value_at c.args.step c.args.s.now (labels_of c.loop-u.room) (record c.take_nearest.new.room { last = c.in-Some.u }) c.graph.ensures.kept.network.arcs_fit c.requires.condition searched c.in-Some.ensures.taken there
    c.requires.potentials c.graph.ensures.kept.network.node_limit c.index-top.result.now c.index-top.ensures in
    rw top (end_distance g.C.Cost.value_at c.args.step c.args.s.now (labels_of c.loop-u.room) (record c.take_nearest.new.room { last = c.in-Some.u }) c.graph.ensures.kept.network.arcs_fit c.requires.condition searched c.in-Some.ensures.taken there c.requires.potentials c.graph.ensures.kept.network.node_limit).1.high

pub raise-requires-clause-room : goal.raise-requires-clause-room
raise-requires-clause-room g c =
    subst (λ z. IsRoomFor (length z.graph.nodes) (record c.take_nearest.new.room { last = c.in-Some.u })) (sym c.loop-u.invariant.state) (record { set = c.in-Some.ensures.room.set ∙ c.loop-u.invariant.room.set; dist = c.in-Some.ensures.room.dist ∙ c.loop-u.invariant.room.set; by = c.in-Some.ensures.room.by ∙ c.loop-u.invariant.room.set; heap = c.in-Some.ensures.room.heap ∙ c.loop-u.invariant.room.set; place = c.in-Some.ensures.room.place ∙ c.loop-u.invariant.room.set; aside = c.in-Some.ensures.room.aside ∙ c.loop-u.invariant.room.set })

pub returns-then-lacks-clause-path : goal.returns-then-lacks-clause-path
returns-then-lacks-clause-path g c =
    let there : c.in-Some.u.0 < length c.args.s.now.graph.nodes = subst (λ z. c.in-Some.u.0 < z) c.loop-u.invariant.room.set c.in-Some.ensures.there in
    let searched : IsSearched g.C.Cost.value_at c.args.step c.args.s.now (labels_of c.loop-u.room) = rw (to_z-of_z w64 c.args.step c.ranges.step) at c.loop-u.invariant.searched in
    let top : to_z w128 (of_z w128 c.index-top.result.now) ≡ distance (labels_of c.take_nearest.new.room) c.in-Some.u.0 =
    end_read g.C.Cost.value_at c.args.step c.args.s.now (labels_of c.loop-u.room) (record c.take_nearest.new.room { last = c.in-Some.u }) c.graph.ensures.kept.network.arcs_fit c.requires.condition searched c.in-Some.ensures.taken there
    c.requires.potentials c.graph.ensures.kept.network.node_limit c.index-top.result.now c.index-top.ensures in
    let rest : c.raise.new.s ≡ with_potentials c.args.s.now c.raise.new.s.potentials = subst (λ z. c.raise.new.s ≡ with_potentials z c.raise.new.s.potentials) c.loop-u.invariant.state c.raise.ensures.rest in
    let raised = subst (λ z. (v : ℕ) → v < length z.graph.nodes → IsGain (distance (labels_of c.take_nearest.new.room) v) (to_z w128 (of_z w128 c.index-top.result.now)) (potential_at c.raise.new.s v -ℤ potential_at z v)) c.loop-u.invariant.state c.raise.ensures.raised in
    let gains = subst (λ t. (v : ℕ) → v < length c.args.s.now.graph.nodes → IsGain (distance (labels_of c.take_nearest.new.room) v) t (potential_at c.raise.new.s v -ℤ potential_at c.args.s.now v)) top raised in
    let e = ended g.C.Cost.value_at c.args.step c.args.s.now (labels_of c.loop-u.room) (record c.take_nearest.new.room { last = c.in-Some.u }) c.graph.ensures.kept.network.arcs_fit c.requires.condition searched c.in-Some.ensures.taken there c.raise.new.s rest gains in
    λ _. e.path

pub returns-then-lacks-clause-ends : goal.returns-then-lacks-clause-ends
returns-then-lacks-clause-ends g c =
    let there : c.in-Some.u.0 < length c.args.s.now.graph.nodes = subst (λ z. c.in-Some.u.0 < z) c.loop-u.invariant.room.set c.in-Some.ensures.there in
    let sink : IsSink c.args.s.now c.args.step c.in-Some.u.0 = subst (λ z. IsSink z c.args.step c.in-Some.u.0) c.loop-u.invariant.state (rw (to_z-of_z w64 c.args.step c.ranges.step) at (c.lacks.ensures.0 c.if-lacks.true)) in
    let rest : c.raise.new.s ≡ with_potentials c.args.s.now c.raise.new.s.potentials = subst (λ z. c.raise.new.s ≡ with_potentials z c.raise.new.s.potentials) c.loop-u.invariant.state c.raise.ensures.rest in
    λ _. (
      c.in-Some.ensures.source ∙ c.loop-u.invariant.source,
      subst (λ z. c.in-Some.u.0 < length z.graph.nodes) (sym rest) there,
      subst (λ z. IsSink z c.args.step c.in-Some.u.0) (sym rest) sink,
    )

pub returns-then-lacks-clause-condition : goal.returns-then-lacks-clause-condition
returns-then-lacks-clause-condition g c =
    let there : c.in-Some.u.0 < length c.args.s.now.graph.nodes = subst (λ z. c.in-Some.u.0 < z) c.loop-u.invariant.room.set c.in-Some.ensures.there in
    let searched : IsSearched g.C.Cost.value_at c.args.step c.args.s.now (labels_of c.loop-u.room) = rw (to_z-of_z w64 c.args.step c.ranges.step) at c.loop-u.invariant.searched in
    let top : to_z w128 (of_z w128 c.index-top.result.now) ≡ distance (labels_of c.take_nearest.new.room) c.in-Some.u.0 =
    end_read g.C.Cost.value_at c.args.step c.args.s.now (labels_of c.loop-u.room) (record c.take_nearest.new.room { last = c.in-Some.u }) c.graph.ensures.kept.network.arcs_fit c.requires.condition searched c.in-Some.ensures.taken there
    c.requires.potentials c.graph.ensures.kept.network.node_limit c.index-top.result.now c.index-top.ensures in
    let rest : c.raise.new.s ≡ with_potentials c.args.s.now c.raise.new.s.potentials = subst (λ z. c.raise.new.s ≡ with_potentials z c.raise.new.s.potentials) c.loop-u.invariant.state c.raise.ensures.rest in
    let raised = subst (λ z. (v : ℕ) → v < length z.graph.nodes → IsGain (distance (labels_of c.take_nearest.new.room) v) (to_z w128 (of_z w128 c.index-top.result.now)) (potential_at c.raise.new.s v -ℤ potential_at z v)) c.loop-u.invariant.state c.raise.ensures.raised in
    let gains = subst (λ t. (v : ℕ) → v < length c.args.s.now.graph.nodes → IsGain (distance (labels_of c.take_nearest.new.room) v) t (potential_at c.raise.new.s v -ℤ potential_at c.args.s.now v)) top raised in
    let e = ended g.C.Cost.value_at c.args.step c.args.s.now (labels_of c.loop-u.room) (record c.take_nearest.new.room { last = c.in-Some.u }) c.graph.ensures.kept.network.arcs_fit c.requires.condition searched c.in-Some.ensures.taken there c.raise.new.s rest gains in
    e.condition

pub returns-then-lacks-clause-rest : goal.returns-then-lacks-clause-rest
returns-then-lacks-clause-rest g c = subst (λ z. c.raise.new.s ≡ with_potentials z c.raise.new.s.potentials) c.loop-u.invariant.state c.raise.ensures.rest

pub returns-then-lacks-clause-closed : goal.returns-then-lacks-clause-closed
returns-then-lacks-clause-closed g c =
    let there : c.in-Some.u.0 < length c.args.s.now.graph.nodes = subst (λ z. c.in-Some.u.0 < z) c.loop-u.invariant.room.set c.in-Some.ensures.there in
    let searched : IsSearched g.C.Cost.value_at c.args.step c.args.s.now (labels_of c.loop-u.room) = rw (to_z-of_z w64 c.args.step c.ranges.step) at c.loop-u.invariant.searched in
    let sink : IsSink c.args.s.now c.args.step c.in-Some.u.0 = subst (λ z. IsSink z c.args.step c.in-Some.u.0) c.loop-u.invariant.state (rw (to_z-of_z w64 c.args.step c.ranges.step) at (c.lacks.ensures.0 c.if-lacks.true)) in
    let way : Reaches c.args.s.now c.args.step c.args.source.0 c.in-Some.u.0 =
    subst (λ z. Reaches c.args.s.now c.args.step z.0 c.in-Some.u.0) (c.in-Some.ensures.source ∙ c.loop-u.invariant.source) (end_reached g.C.Cost.value_at c.args.step c.args.s.now (labels_of c.loop-u.room) (record c.take_nearest.new.room { last = c.in-Some.u }) c.graph.ensures.kept.network.arcs_fit c.requires.condition searched c.in-Some.ensures.taken there) in
    (λ e. absurd (cc), λ h. absurd (h c.in-Some.u.0 there sink way))

pub returns-then-lacks-clause-room : goal.returns-then-lacks-clause-room
returns-then-lacks-clause-room g c =
    let rest : c.raise.new.s ≡ with_potentials c.args.s.now c.raise.new.s.potentials = subst (λ z. c.raise.new.s ≡ with_potentials z c.raise.new.s.potentials) c.loop-u.invariant.state c.raise.ensures.rest in
    subst (λ z. IsRoomFor (length z.graph.nodes) (record c.take_nearest.new.room { last = c.in-Some.u })) (sym rest) (record { set = c.in-Some.ensures.room.set ∙ c.loop-u.invariant.room.set; dist = c.in-Some.ensures.room.dist ∙ c.loop-u.invariant.room.set; by = c.in-Some.ensures.room.by ∙ c.loop-u.invariant.room.set; heap = c.in-Some.ensures.room.heap ∙ c.loop-u.invariant.room.set; place = c.in-Some.ensures.room.place ∙ c.loop-u.invariant.room.set; aside = c.in-Some.ensures.room.aside ∙ c.loop-u.invariant.room.set })

pub relax-requires-clause-there : goal.relax-requires-clause-there
relax-requires-clause-there g c =
    let there : c.in-Some.u.0 < length c.args.s.now.graph.nodes = subst (λ z. c.in-Some.u.0 < z) c.loop-u.invariant.room.set c.in-Some.ensures.there in
    subst (λ z. c.in-Some.u.0 < length z.graph.nodes) (sym c.loop-u.invariant.state) there

pub relax-requires-clause-potentials : goal.relax-requires-clause-potentials
relax-requires-clause-potentials g c = subst (λ z. ArePotentials (pos (2 * 10 ^ 22)) (length z.graph.nodes) z.potentials) (sym c.loop-u.invariant.state) c.requires.potentials

pub relax-requires-clause-condition : goal.relax-requires-clause-condition
relax-requires-clause-condition g c =
    subst (λ z. MeetsAll g.C.Cost.value_at (to_z w64 (of_z w64 c.args.step)) z) (sym c.loop-u.invariant.state) (rw (to_z-of_z w64 c.args.step c.ranges.step) c.requires.condition)

pub relax-requires-clause-relaxing : goal.relax-requires-clause-relaxing
relax-requires-clause-relaxing g c =
    let there : c.in-Some.u.0 < length c.args.s.now.graph.nodes = subst (λ z. c.in-Some.u.0 < z) c.loop-u.invariant.room.set c.in-Some.ensures.there in
    subst (λ z. IsRelaxing g.C.Cost.value_at (to_z w64 (of_z w64 c.args.step)) z (labels_of c.take_nearest.new.room) c.in-Some.u.0) (sym c.loop-u.invariant.state)
    (taken g.C.Cost.value_at (to_z w64 (of_z w64 c.args.step)) c.args.s.now (labels_of c.loop-u.room) (labels_of c.take_nearest.new.room) c.in-Some.u.0 there c.loop-u.invariant.searched c.in-Some.ensures.taken)

pub relax-requires-clause-room : goal.relax-requires-clause-room
relax-requires-clause-room g c =
    subst (λ z. IsRoomFor (length z.graph.nodes) c.take_nearest.new.room) (sym c.loop-u.invariant.state) (subst (λ z. IsRoomFor z c.take_nearest.new.room) c.loop-u.invariant.room.set c.in-Some.ensures.room)

pub loop-u-preserved : goal.loop-u-preserved
loop-u-preserved g c =
    let dry : IsSink c.args.s.now (to_z w64 (of_z w64 c.args.step)) c.in-Some.u.0 → ⊥ = λ k. (let t = c.lacks.ensures.1 (subst (λ z. IsSink z (to_z w64 (of_z w64 c.args.step)) c.in-Some.u.0) (sym c.loop-u.invariant.state) k) in not_both c.lacks.result t c.if-lacks.false) in
    let relaxing = subst (λ z. IsRelaxing g.C.Cost.value_at (to_z w64 (of_z w64 c.args.step)) z (labels_of c.relax.new.room) c.in-Some.u.0) c.loop-u.invariant.state c.relax.ensures.relaxing in
    let relaxed = subst (λ z. RelaxesAll g.C.Cost.value_at (to_z w64 (of_z w64 c.args.step)) z (labels_of c.relax.new.room) c.in-Some.u.0) c.loop-u.invariant.state c.relax.ensures.relaxed in
    record {
      room = subst (λ z. IsRoomFor (length z.graph.nodes) c.relax.new.room) c.loop-u.invariant.state c.relax.ensures.room;
      state = c.loop-u.invariant.state;
      source = c.relax.ensures.source ∙ c.in-Some.ensures.source ∙ c.loop-u.invariant.source;
      lists = record { at = distance (labels_of c.relax.new.room) c.in-Some.u.0; listed = c.relax.ensures.lists; far = λ v k. relaxing.explored.far v (record { nonneg = k.reached }) k.apart };
      aside = c.relax.ensures.aside ∙ c.in-Some.ensures.aside ∙ c.loop-u.invariant.aside;
      searched = searched_on g.C.Cost.value_at (to_z w64 (of_z w64 c.args.step)) c.args.s.now (labels_of c.loop-u.room) (labels_of c.take_nearest.new.room) (labels_of c.relax.new.room) c.in-Some.u.0 c.loop-u.invariant.searched c.in-Some.ensures.taken dry relaxing c.relax.ensures.lowered relaxed;
    }

pub loop-u-smaller : goal.loop-u-smaller
loop-u-smaller g c =
    let there : c.in-Some.u.0 < length c.args.s.now.graph.nodes = subst (λ z. c.in-Some.u.0 < z) c.loop-u.invariant.room.set c.in-Some.ensures.there in
    let sized : length c.loop-u.room.set.items ≡ length c.args.s.now.graph.nodes = c.loop-u.invariant.searched.explored.frontier.set in
    let more = more_settled g.C.Cost.value_at c.args.step c.args.s.now (labels_of c.loop-u.room) (labels_of c.take_nearest.new.room) c.in-Some.u.0 (subst (λ z. c.in-Some.u.0 < z) (sym sized) there) c.in-Some.ensures.taken in
    let kept : c.relax.new.room.set.items ≡ c.take_nearest.new.room.set.items = c.relax.ensures.lowered.set in
    let now : count_by (λ b. b) c.relax.new.room.set.items ≡ count_by (λ b. b) c.loop-u.room.set.items + 1 = ap (λ z. count_by (λ b. b) z) kept ∙ more in
    let most = count_by-le-length (λ b. b) c.relax.new.room.set.items in
    let long : length c.relax.new.room.set.items ≡ length c.loop-u.s.graph.nodes = c.relax.ensures.relaxing.explored.frontier.set in
    one_less (count_by (λ b. b) c.loop-u.room.set.items) (count_by (λ b. b) c.relax.new.room.set.items) (length c.loop-u.s.graph.nodes) (length c.relax.new.room.set.items) now most long

pub returns-clause-condition : goal.returns-clause-condition
returns-clause-condition g c = subst (λ z. MeetsAll g.C.Cost.value_at c.args.step z) (sym c.loop-u.invariant.state) c.requires.condition

pub returns-clause-rest : goal.returns-clause-rest
returns-clause-rest g c = subst (λ z. z ≡ with_potentials c.args.s.now z.potentials) (sym c.loop-u.invariant.state) refl

pub returns-clause-closed : goal.returns-clause-closed
returns-clause-closed g c =
    let searched : IsSearched g.C.Cost.value_at c.args.step c.args.s.now (labels_of c.loop-u.room) = rw (to_z-of_z w64 c.args.step c.ranges.step) at c.loop-u.invariant.searched in (
      λ _ n l k r. no_sink_reached g.C.Cost.value_at c.args.step c.args.s.now (labels_of c.loop-u.room) c.take_nearest.new.room c.graph.ensures.kept.spans.counted c.graph.ensures.kept.counted searched c.in_default.ensures.taken n k
          (subst (λ z. Reaches c.args.s.now c.args.step z.0 n) (sym (c.in_default.ensures.source ∙ c.loop-u.invariant.source)) r),
      λ _. refl,
    )

pub returns-clause-set : goal.returns-clause-set
returns-clause-set g c =
    let searched : IsSearched g.C.Cost.value_at c.args.step c.args.s.now (labels_of c.loop-u.room) = rw (to_z-of_z w64 c.args.step c.ranges.step) at c.loop-u.invariant.searched in
    λ _ n l. subst (λ z. (slice_get c.take_nearest.new.room.set.items n ≡ Some true) ↔ Reaches c.args.s.now c.args.step z.0 n) (c.in_default.ensures.source ∙ c.loop-u.invariant.source)
    (set_is_reached g.C.Cost.value_at c.args.step c.args.s.now (labels_of c.loop-u.room) c.take_nearest.new.room c.graph.ensures.kept.spans.counted c.graph.ensures.kept.counted searched c.in_default.ensures.taken n)

pub returns-clause-stays : goal.returns-clause-stays
returns-clause-stays g c = λ _. c.loop-u.invariant.state

pub returns-clause-room : goal.returns-clause-room
returns-clause-room g c =
    subst (λ z. IsRoomFor (length z.graph.nodes) c.take_nearest.new.room) (sym c.loop-u.invariant.state) (subst (λ z. IsRoomFor z c.take_nearest.new.room) c.loop-u.invariant.room.set c.in_default.ensures.room)
