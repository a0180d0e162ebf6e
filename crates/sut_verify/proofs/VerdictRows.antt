-- Breaks and verdicts of a problem whose sources differ, computed.
use Rattle.std.proofs.Common.{◌≡◌, ℤ, pos, List, [], ◌∷◌, None, Some, refl}
use Rattle.sut_classes.specs.declared.ids.Column.TheVariants as column
use Rattle.sut_measures.specs.declared.measures.Cell.TheVariants as cell
use Rattle.sut_measures.specs.declared.measures.Measure.{Measure}
use Rattle.sut_measures.specs.declared.measures.Measure.TheVariants as measure
use Rattle.sut_measures.specs.declared.measures.Total.TheVariants as total
use Rattle.sut_tables.specs.RowFacts.{RowFacts}
use Rattle.sut_tables.specs.ProblemFacts.{ProblemFacts}
use Rattle.sut_tables.specs.declared.rows.Penalty.TheVariants.{Square}
use Rattle.sut_measures.specs.declared.accounts.Account.{Account}
use Rattle.sut_measures.specs.declared.accounts.Account.TheVariants as account
use Rattle.sut_tables.specs.TableFacts.{TableFacts}
use Rattle.sut_tables.specs.declared.tables.Place.TheVariants as place
use Rattle.sut_tables.specs.Problems.{groups}
use Rattle.sut_tables.specs.Breaks.{first_break}
use Rattle.sut_verify.specs.declared.verdicts.Reason.TheVariants as reason
use Rattle.sut_verify.specs.declared.verdicts.Verdict.TheVariants as verdict
use Rattle.sut_verify.specs.Verdicts.{verdict_on, verdict_on_cut}

abbrev make : Measure
make = measure.Cell (cell.Make (record { 0 = 0 }) (record { 0 = 0 }))

abbrev basic : Measure
basic = measure.Cell (cell.Basic (record { 0 = 0 }) (column.Final (record { 0 = 0 })))

abbrev added : Measure
added = measure.Cell (cell.Added (record { 0 = 0 }) (record { 0 = 0 }))

abbrev aimed : Measure → ℤ → RowFacts
aimed m x = record { measure = m; target = Some x; penalty = Square; grade = 0; weight = 1; lower = pos 0; upper = pos 1000000000000 }

abbrev apart : ProblemFacts
apart = record {
  classes = record {
    format = 1;
    products = record { code = 88 ∷ []; kind = None; group = None } ∷ [];
    industries = record { code = 65 ∷ []; group = None } ∷ [];
    finals = (70 ∷ []) ∷ [];
    items = (86 ∷ []) ∷ [];
    margins = [];
    taxes = [];
    product_groups = [];
    industry_groups = [];
  };
  rows =
      aimed make (pos 100) ∷ aimed basic (pos 104)
      ∷ record { measure = added; target = None; penalty = Square; grade = 0; weight = 0; lower = pos 0; upper = pos 1000 } ∷ [];
}

abbrev numbers : ℤ → ℤ → ℤ → TableFacts
numbers m b a = record {
  groups = groups apart;
  cells = record { cell = cell.Make (record { 0 = 0 }) (record { 0 = 0 }); number = m }
      ∷ record { cell = cell.Basic (record { 0 = 0 }) (column.Final (record { 0 = 0 })); number = b }
      ∷ record { cell = cell.Added (record { 0 = 0 }) (record { 0 = 0 }); number = a } ∷ [];
}

abbrev potentials : ℤ → List (Account × ℤ)
potentials x =
    (account.Supplied (record { 0 = 0 }), x) ∷ (account.Used (record { 0 = 0 }), pos 4)
    ∷ (account.Bought (record { 0 = 0 }) (column.Final (record { 0 = 0 })), pos 0)
    ∷ (account.Adding (record { 0 = 0 }), pos 0) ∷ (account.Industry (record { 0 = 0 }), pos 0)
    ∷ (account.Making (record { 0 = 0 }), pos 0) ∷ (account.Final (record { 0 = 0 }), pos 0)
    ∷ (account.Item (record { 0 = 0 }), pos 0) ∷ (account.Spending, pos 0) ∷ (account.Income, pos 0) ∷ []

-- the targets break the product's identity
targets_break : first_break apart (numbers (pos 100) (pos 104) (pos 100)) ≡ Some (record { place = place.Product (record { 0 = 0 }); left = pos 100; right = pos 104 })
targets_break = refl

-- and a value above its bound is found
above_bound : first_break apart (numbers (pos 1001) (pos 1001) (pos 1001)) ≡ Some (record { place = place.Above added; left = pos 1001; right = pos 1000 })
above_bound = refl

shown_least : verdict_on apart (numbers (pos 102) (pos 102) (pos 102)) (potentials (pos 4)) ≡ verdict.Least
shown_least = refl

-- with one potential raised, make costs less than it brings
raised : verdict_on apart (numbers (pos 102) (pos 102) (pos 102)) (potentials (pos 104)) ≡ verdict.Refused (reason.Up make (pos 5) (pos 104))
raised = refl

-- a broken identity comes before all else
open_table : verdict_on apart (numbers (pos 100) (pos 104) (pos 100)) [] ≡ verdict.Refused (reason.Open (record { place = place.Product (record { 0 = 0 }); left = pos 100; right = pos 104 }))
open_table = refl

no_potential : verdict_on apart (numbers (pos 102) (pos 102) (pos 102)) [] ≡ verdict.Refused (reason.NoPotential (account.Supplied (record { 0 = 0 })))
no_potential = refl

-- at most 90 can be made, and at least 95 is to be used
abbrev bounded : Measure → ℤ → ℤ → RowFacts
bounded m lo hi = record { measure = m; target = Some (pos 100); penalty = Square; grade = 0; weight = 1; lower = lo; upper = hi }

abbrev short : ProblemFacts
short = record apart {
  rows =
      bounded make (pos 0) (pos 90) ∷ bounded basic (pos 95) (pos 1000000000000)
      ∷ record { measure = added; target = None; penalty = Square; grade = 0; weight = 0; lower = pos 0; upper = pos 1000 } ∷ [];
}

abbrev with_making : List Account → List Account
with_making rest =
    account.Bought (record { 0 = 0 }) (column.Final (record { 0 = 0 })) ∷ account.Adding (record { 0 = 0 })
    ∷ account.Industry (record { 0 = 0 }) ∷ account.Making (record { 0 = 0 }) ∷ rest

abbrev closed : List Account
closed = account.Item (record { 0 = 0 }) ∷ account.Spending ∷ account.Income ∷ []

no_table : verdict_on_cut short (with_making (account.Final (record { 0 = 0 }) ∷ closed)) ≡ verdict.NoTable (pos 95) (pos 90)
no_table = refl

-- without the final use its purchase, which has no row, leaves the set
crosses : verdict_on_cut short (with_making closed) ≡ verdict.Refused (reason.Crosses (measure.Total (total.Purchase (record { 0 = 0 }) (column.Final (record { 0 = 0 })))))
crosses = refl

-- the set of no accounts
no_accounts : verdict_on_cut short [] ≡ verdict.Refused (reason.NoGap (pos 0) (pos 0))
no_accounts = refl
