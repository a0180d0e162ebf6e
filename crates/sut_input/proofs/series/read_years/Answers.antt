use Rattle.std.proofs.Common.{◌≡◌, ◌+◌, ◌∙◌, ℕ, List, [], ◌∷◌, All, IfSome, None, Ok, length, take, ap, arith, subst, sym}
use Rattle.std.proofs.lemmas.List.{length_push}
use Rattle.std.proofs.lemmas.List.Elements.{All-nil, All-push}
use Rattle.sut_outside.specs.Files.{Files}
use Rattle.sut_outside.proofs.NoneFailed.{both_stay, no_call}
use Rattle.sut_source.specs.SourceText.{HasGrade}
use Rattle.sut_tables.specs.ProblemFacts.{ProblemFacts}
use Rattle.sut_input.specs.Following.{RefusesAs}
use Rattle.sut_input.specs.SeriesInputs.{series_part, year_in, year_names, years_in}
use Rattle.sut_input.proofs.StepLemmas.{kept-twice, told-back}
use Rattle.sut_input.proofs.FollowingSteps.{fails-later, nothing-told, only-names}
use Rattle.sut_input.proofs.YearNames.{year-among}
use Rattle.sut_input.proofs.SeriesSteps.{next-read, next-refused, none-read, told-self}
use Rattle.sut_input.proofs.series.read_years.Goals as goal

pub years-init : goal.years-init
years-init g c =
    let held = g.F.Shelf.files c.args.shelf.now in
    let empty = sym {A = List ProblemFacts} c.new-problems.ensures.items in
    record {
      kept = told-self held;
      read = subst (λ (ps : List ProblemFacts). IfSome held (λ (files : Files). years_in (take 0 year_names) 1 c.args.settings.now c.args.classes.now None files ≡ Ok ps)) empty (none-read c.args.settings.now c.args.classes.now held);
      number = ap length c.new-problems.ensures.items;
      classes = subst (All (λ (p : ProblemFacts). p.classes ≡ c.args.classes.now)) empty (All-nil (λ (p : ProblemFacts). p.classes ≡ c.args.classes.now));
      graded = subst (All (λ (p : ProblemFacts). All (HasGrade c.args.settings.now) p.rows)) empty (All-nil (λ (p : ProblemFacts). All (HasGrade c.args.settings.now) p.rows));
      none_failed = no_call;
    }

pub years-preserved : goal.years-preserved
years-preserved g c =
    let held = g.F.Shelf.files c.args.shelf.now in
    let more = sym {A = List ProblemFacts} c.in-Ok-push.ensures.items in
    let before = c.years.before in
    let p = c.in-Ok.problem in
    record {
      kept = kept-twice _ _ _ c.years.invariant.kept c.read_year.ensures.kept;
      read =
          subst (λ (ps : List ProblemFacts). IfSome held (λ (files : Files). years_in (take (before + 1) year_names) 1 c.args.settings.now c.args.classes.now None files ≡ Ok ps)) more
          (next-read c.args.settings.now c.args.classes.now held before c.year_name.result c.years.problems.items p (omega arith) c.year_name.ensures c.years.invariant.read
          (told-back (λ (files : Files). year_in c.year_name.result (before + 1) c.args.settings.now c.args.classes.now None files ≡ Ok p) _ _ c.years.invariant.kept c.in-Ok.ensures.ok));
      number = ap length c.in-Ok-push.ensures.items ∙ length_push c.years.problems.items p ∙ ap (λ n. n + 1) c.years.invariant.number;
      classes = subst (All (λ (p : ProblemFacts). p.classes ≡ c.args.classes.now)) more (All-push (λ (p : ProblemFacts). p.classes ≡ c.args.classes.now) c.years.problems.items p c.years.invariant.classes c.in-Ok.ensures.classes);
      graded = subst (All (λ (p : ProblemFacts). All (HasGrade c.args.settings.now) p.rows)) more (All-push (λ (p : ProblemFacts). All (HasGrade c.args.settings.now) p.rows) c.years.problems.items p c.years.invariant.graded c.in-Ok.ensures.graded);
      none_failed = both_stay c.years.invariant.none_failed (c.in-Ok.ensures.stays (λ h. h));
    }

pub returns-in-Err-push-clause-kept : goal.returns-in-Err-push-clause-kept
returns-in-Err-push-clause-kept g c = kept-twice _ _ _ c.years.invariant.kept c.read_year.ensures.kept

pub returns-in-Err-push-clause-err : goal.returns-in-Err-push-clause-err
returns-in-Err-push-clause-err g c = nothing-told (g.F.Shelf.files c.args.shelf.now)

pub returns-in-Err-push-clause-stays : goal.returns-in-Err-push-clause-stays
returns-in-Err-push-clause-stays g c other = both_stay c.years.invariant.none_failed (c.in-Ok.ensures.stays (λ h. h))

pub returns-in-Err-clause-err : goal.returns-in-Err-clause-err
returns-in-Err-clause-err g c =
    next-refused c.args.settings.now c.args.classes.now (g.F.Shelf.files c.args.shelf.now) c.args.years c.years.before c.year_name.result c.years.problems.items c.in-Err.fault (omega arith) (omega arith) c.year_name.ensures
    (only-names series_part (c.year_name.result ∷ []) _ _ _ c.in-Err.fault c.in-Err.ensures.cause) c.years.invariant.read
    (told-back (λ (files : Files). RefusesAs series_part (year_in c.year_name.result (c.years.before + 1) c.args.settings.now c.args.classes.now) files c.in-Err.fault) _ _ c.years.invariant.kept c.in-Err.ensures.err)

pub returns-in-Err-clause-cause : goal.returns-in-Err-clause-cause
returns-in-Err-clause-cause g c =
    fails-later series_part (c.year_name.result ∷ []) (take c.args.years year_names) (year-among c.args.years c.years.before c.year_name.result (omega arith) c.year_name.ensures)
    (g.F.Shelf.faults c.args.shelf.now) (g.F.Shelf.faults c.years.shelf) (g.F.Shelf.faults c.read_year.new.shelf) (g.F.Shelf.last_failed c.read_year.new.shelf) c.in-Err.fault (omega (arith, c.years.invariant.none_failed.count)) c.in-Err.ensures.cause

pub returns-clause-ok : goal.returns-clause-ok
returns-clause-ok g c =
    let all : c.years.before ≡ c.args.years = omega arith in
    subst (λ (n : ℕ). IfSome (g.F.Shelf.files c.args.shelf.now) (λ (files : Files). years_in (take n year_names) 1 c.args.settings.now c.args.classes.now None files ≡ Ok c.years.problems.items)) all c.years.invariant.read

pub returns-clause-number : goal.returns-clause-number
returns-clause-number g c =
    let all : c.years.before ≡ c.args.years = omega arith in
    c.years.invariant.number ∙ all
