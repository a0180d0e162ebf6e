use Rattle.std.proofs.Common.{◌≡◌, All, IfSome, None, Ok, length, take}
use Rattle.sut_outside.specs.Causes.{NoneFailed}
use Rattle.sut_outside.specs.Files.{Files, SameFiles, Told}
use Rattle.sut_source.specs.SourceText.{HasGrade}
use Rattle.sut_tables.specs.ProblemFacts.{ProblemFacts}
use Rattle.sut_input.specs.SeriesInputs.{year_names, years_in}
use Rattle.sut_input.proofs.series.read_years.Given as goal

abbrev pub invariant-years : goal.invariant-years
invariant-years g l = record {
  kept : Told (g.F.Shelf.files l.initial.shelf) (g.F.Shelf.files l.shelf) SameFiles;
  read : IfSome (g.F.Shelf.files l.initial.shelf) (λ (files : Files). years_in (take l.before year_names) 1 l.settings l.classes None files ≡ Ok l.problems.items);
  number : length l.problems.items ≡ l.before;
  classes : All (λ (p : ProblemFacts). p.classes ≡ l.classes) l.problems.items;
  graded : All (λ (p : ProblemFacts). All (HasGrade l.settings) p.rows) l.problems.items;
  none_failed : NoneFailed (g.F.Shelf.faults l.initial.shelf) (g.F.Shelf.faults l.shelf) (g.F.Shelf.last_failed l.initial.shelf) (g.F.Shelf.last_failed l.shelf);
}
