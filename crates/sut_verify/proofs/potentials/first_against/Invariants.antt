use Rattle.std.proofs.Common.{◌≡◌, length}
use Rattle.std.specs.List.{flat_map}
use Rattle.sut_measures.specs.Keys.{measure_key}
use Rattle.sut_tables.specs.Breaks.{first_of}
use Rattle.sut_tables.specs.Problems.{live_measures}
use Rattle.sut_verify.specs.Verdicts.{reasons_at}
use Rattle.sut_verify.proofs.Walks.{IsAmong, left_of}
use Rattle.sut_verify.proofs.potentials.first_against.Given as goal

-- the first reason is one of what is left
abbrev pub invariant-measures : goal.invariant-measures
invariant-measures l = record {
  among : IsAmong measure_key l.next (live_measures l.p);
  same : first_of (flat_map (reasons_at l.p l.t l.c) (left_of measure_key l.next (live_measures l.p))) ≡ first_of (flat_map (reasons_at l.p l.t l.c) (live_measures l.p));
}

abbrev pub decreases-measures : goal.decreases-measures
decreases-measures l = length (left_of measure_key l.next (live_measures l.p))
