-- Which problems there are, which tables are of a problem, and which measures and accounts of it are live.
use Rattle.std.specs.Prelude.{◌≡◌, IsTrue, List, [], ◌∷◌, map, All, find, Option, None, Some}
use Rattle.std.specs.List.{flat_map, filter_map}
use Rattle.sut_classes.specs.Groups.{Groups, groups_of}
use Rattle.sut_measures.specs.Keys.{measure_key, account_key}
use Rattle.sut_measures.specs.Fits.{fits}
use Rattle.sut_measures.specs.Sums.{totals_with}
use Rattle.sut_measures.specs.Ends.{left, entered}
use Rattle.sut_measures.specs.declared.accounts.Account.{Account}
use Rattle.sut_tables.specs.InOrder.{IsAscending, in_order, same_key}
use Rattle.sut_tables.specs.RowFacts.{RowFacts}
use Rattle.sut_tables.specs.Rows.{IsRow}
use Rattle.sut_tables.specs.ProblemFacts.{ProblemFacts}
use Rattle.sut_tables.specs.TableFacts.{TableFacts}
use Rattle.sut_tables.specs.declared.tables.Held.{Held}
use Rattle.sut_measures.specs.declared.measures.Cell.{Cell}
use Rattle.sut_measures.specs.declared.measures.Measure.{Measure}
use Rattle.sut_measures.specs.declared.measures.Measure.TheVariants as measure

-- rows in measure order, each measure at most once and fitting, in the ranges of rows
pub record IsProblem (p : ProblemFacts) : Type 0 where
  pub in_order : IsAscending (λ (r : RowFacts). measure_key r.measure) p.rows
  pub fitting : All (λ (r : RowFacts). IsTrue (fits p.classes r.measure)) p.rows
  pub in_range : All IsRow p.rows

abbrev pub groups : ProblemFacts → Groups
groups p = groups_of p.classes

-- the row of a measure, if it has one
abbrev pub row_at : ProblemFacts → Measure → Option RowFacts
row_at p m = find (λ r. same_key (measure_key r.measure) (measure_key m)) p.rows

abbrev pub cell_of : Measure → Option Cell
cell_of (measure.Cell c) = Some c
cell_of (measure.Total t) = None

-- the cells that have a row, in order
abbrev pub cell_rows : ProblemFacts → List Cell
cell_rows p = filter_map (λ (r : RowFacts). cell_of r.measure) p.rows

-- This table belongs to this problem: its cells are the cell rows, in order, and its groups are those of the classes.
pub record IsTableOf (p : ProblemFacts) (t : TableFacts) : Type 0 where
  pub cells : map (λ (h : Held). h.cell) t.cells ≡ cell_rows p
  pub groups : t.groups ≡ groups_of p.classes

-- the measures that a row makes live: its own, and for a cell those totals in whose sum it stands
abbrev pub made_live : Groups → Measure → List Measure
made_live gs (measure.Cell c) = measure.Cell c ∷ map measure.Total (totals_with gs c)
made_live gs (measure.Total t) = measure.Total t ∷ []

-- the live measures, in order
abbrev pub live_measures : ProblemFacts → List Measure
live_measures p = in_order measure_key (flat_map (λ (r : RowFacts). made_live (groups p) r.measure) p.rows)

-- the accounts that a live measure leaves or enters, in order
abbrev pub live_accounts : ProblemFacts → List Account
live_accounts p =
    in_order account_key (flat_map (λ m. left (groups p) m ∷ entered (groups p) m ∷ []) (live_measures p))
