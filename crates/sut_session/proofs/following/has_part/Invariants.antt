use Rattle.std.proofs.Common.{◌≡◌}
use Rattle.std.specs.Prelude.{All, IsTrue}
use Rattle.std.specs.List.{list_any}
use Rattle.sut_measures.specs.Fits.{fits}
use Rattle.sut_measures.specs.declared.measures.Measure.TheVariants as measure
use Rattle.sut_tables.specs.LiveRule.{is_part_of}
use Rattle.sut_tables.specs.Problems.{groups}
use Rattle.sut_tables.specs.RowFacts.{RowFacts}
use Rattle.sut_session.proofs.following.has_part.Given as goal

-- the rows that are left fit, and a part among all rows is among them
abbrev pub invariant-loop-row : goal.invariant-loop-row
invariant-loop-row l = record {
  fitting : All (λ (r : RowFacts). IsTrue (fits l.p.classes r.measure)) l.row-iterator;
  left : list_any (λ (r : RowFacts). is_part_of (groups l.p) r.measure (measure.Total l.t)) l.row-iterator ≡ list_any (λ (r : RowFacts). is_part_of (groups l.p) r.measure (measure.Total l.t)) l.p.rows;
}
