use Rattle.std.proofs.Common.{◌≡◌, ◌<◌, length, refl, sym, ap, subst}
use Rattle.std.specs.Prelude.{Some, true}
use Rattle.std.specs.List.{flat_map}
use Rattle.sut_measures.specs.Keys.{measure_key}
use Rattle.sut_measures.proofs.KeyLemmas.{measure_key-injective}
use Rattle.sut_tables.specs.Breaks.{first_of}
use Rattle.sut_tables.specs.Problems.{live_measures}
use Rattle.sut_tables.specs.Tables.{first_above}
use Rattle.sut_tables.proofs.Conservation.{live-sorted}
use Rattle.sut_tables.proofs.Ordered.{among}
use Rattle.sut_verify.specs.Verdicts.{reasons_at}
use Rattle.sut_verify.proofs.Walks.{IsAmong, fewer, found-here, left_of, not-here, started, stepped}
use Rattle.sut_verify.proofs.potentials.first_against.Goals as goal

pub measures-init : goal.measures-init
measures-init c =
    let start = started measure_key c.next_live-next.result (live_measures c.args.p.now) c.next_live-next.ensures in
    record { among = start.0; same = ap (λ l. first_of (flat_map (reasons_at c.args.p.now c.args.t.now c.args.c.now) l)) start.1 }

pub measures-preserved : goal.measures-preserved
measures-preserved c =
    let live = live_measures c.args.p.now in
    let here : among measure_key (measure_key c.in-Some.measure) live ≡ true = subst (λ o. IsAmong measure_key o live) c.in-Some.is c.measures.invariant.among in
    let step = stepped measure_key measure_key-injective live (live-sorted c.args.p.now) c.in-Some.measure here c.next_live-next-in-Some.result c.next_live-next-in-Some.ensures in
    let same = subst (λ o. first_of (flat_map (reasons_at c.args.p.now c.args.t.now c.args.c.now) (left_of measure_key o live)) ≡ first_of (flat_map (reasons_at c.args.p.now c.args.t.now c.args.c.now) live)) c.in-Some.is c.measures.invariant.same in
    record {
      among = step.0;
      same = not-here measure_key ((reasons_at c.args.p.now c.args.t.now c.args.c.now)) live c.in-Some.measure (left_of measure_key c.next_live-next-in-Some.result live) (first_of (flat_map (reasons_at c.args.p.now c.args.t.now c.args.c.now) live)) step.1 same c.in_default-against.ensures;
    }

pub measures-smaller : goal.measures-smaller
measures-smaller c =
    let live = live_measures c.args.p.now in
    let here : among measure_key (measure_key c.in-Some.measure) live ≡ true = subst (λ o. IsAmong measure_key o live) c.in-Some.is c.measures.invariant.among in
    let step = stepped measure_key measure_key-injective live (live-sorted c.args.p.now) c.in-Some.measure here c.next_live-next-in-Some.result c.next_live-next-in-Some.ensures in
    subst (λ o. length (left_of measure_key c.next_live-next-in-Some.result live) < length (left_of measure_key o live)) (sym c.in-Some.is) (fewer measure_key live c.in-Some.measure (left_of measure_key c.next_live-next-in-Some.result live) step.1)

pub returns-in-Some-against : goal.returns-in-Some-against
returns-in-Some-against c =
    let live = live_measures c.args.p.now in
    let here : among measure_key (measure_key c.in-Some.measure) live ≡ true = subst (λ o. IsAmong measure_key o live) c.in-Some.is c.measures.invariant.among in
    let after = first_above measure_key (Some c.in-Some.measure) live in
    let step = stepped measure_key measure_key-injective live (live-sorted c.args.p.now) c.in-Some.measure here after refl in
    let same = subst (λ o. first_of (flat_map (reasons_at c.args.p.now c.args.t.now c.args.c.now) (left_of measure_key o live)) ≡ first_of (flat_map (reasons_at c.args.p.now c.args.t.now c.args.c.now) live)) c.in-Some.is c.measures.invariant.same in
    found-here measure_key ((reasons_at c.args.p.now c.args.t.now c.args.c.now)) live c.in-Some.measure (left_of measure_key after live) (first_of (flat_map (reasons_at c.args.p.now c.args.t.now c.args.c.now) live)) c.in-Some-against.reason step.1 same c.in-Some-against.ensures
