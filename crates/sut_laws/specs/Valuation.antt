-- From basic to purchasers' prices (SNA 2008, 6.51 and 6.64, and chapter 14; UN Handbook on Supply and Use Tables, 2018,
-- chapter 7). Subsidies are taxes below 0. Every `Problem` is as `IsProblem` asks (`Problem::kept`); `Table::zeros` and
-- `read_balanced` give tables of a problem, and where `first_open` answers none a table meets the identities.
use Rattle.std.specs.Prelude.{◌≡◌, ℕ, Bool, true, pos, ◌+ℤ◌, List, All, bytes_eq, codes, take}
use Rattle.sut_classes.specs.declared.ids.Column.{Column}
use Rattle.sut_classes.specs.declared.ids.MarginId.{MarginId}
use Rattle.sut_classes.specs.declared.ids.ProductId.{ProductId}
use Rattle.sut_classes.specs.declared.ids.TaxId.{TaxId}
use Rattle.sut_measures.specs.declared.measures.Cell.TheVariants as cell
use Rattle.sut_measures.specs.declared.measures.Total.TheVariants as total
use Rattle.sut_tables.specs.Identities.{MeetsIdentities}
use Rattle.sut_tables.specs.ProblemFacts.{ProblemFacts}
use Rattle.sut_tables.specs.Problems.{IsProblem, IsTableOf}
use Rattle.sut_tables.specs.TableFacts.{TableFacts}
use Rattle.sut_tables.specs.Values.{int_sum_by}
use Rattle.sut_write.specs.Numbers.{cell_value, supply_at_purchasers, total_of}
use Rattle.sut_write.specs.Places.{columns, margins, products, taxes}
use Rattle.sut_write.specs.Supply.{column_sum, supply_columns, supply_heading}

-- Over every table of a problem: a purchase at purchasers' prices is its basic value, plus its margins of all kinds, plus its
-- taxes of all kinds less subsidies.
abbrev pub PurchasersPrices : Type 0
PurchasersPrices =
    (p : ProblemFacts) (t : TableFacts) → IsProblem p → IsTableOf p t → (i : ProductId) (q : Column)
    → total_of t (total.Purchase i q)
    ≡ cell_value t (cell.Basic i q)
    +ℤ int_sum_by (λ k. cell_value t (cell.Margin k i q)) (margins p.classes)
    +ℤ int_sum_by (λ x. cell_value t (cell.Tax x i q)) (taxes p.classes)

-- Over every table of a problem: the total of a kind of tax is the sum over its products.
abbrev pub TaxTotals : Type 0
TaxTotals =
    (p : ProblemFacts) (t : TableFacts) → IsProblem p → IsTableOf p t → (x : TaxId)
    → total_of t (total.TaxTotal x) ≡ int_sum_by (λ i. total_of t (total.TaxProduct x i)) (products p.classes)

-- So is the total of a kind of margin.
abbrev pub MarginTotals : Type 0
MarginTotals =
    (p : ProblemFacts) (t : TableFacts) → IsProblem p → IsTableOf p t → (k : MarginId)
    → total_of t (total.MarginTotal k) ≡ int_sum_by (λ i. total_of t (total.MarginProduct k i)) (products p.classes)

-- a heading of the supply table that stands over net margins of a kind: `margin:` and its code
abbrev pub is_margin_heading : List ℕ → Bool
is_margin_heading text = bytes_eq (take 7 text) (codes "margin:")

-- Where the identities hold, each column of the supply table with such a heading sums to 0: the products that provide a margin
-- offset those that bear it. (`supply_sums` prints the sums.)
abbrev pub MarginColumnsCancel : Type 0
MarginColumnsCancel =
    (p : ProblemFacts) (t : TableFacts) → IsProblem p → IsTableOf p t → MeetsIdentities t
    → All (λ c. is_margin_heading (supply_heading p.classes c) ≡ true → column_sum p.classes t c ≡ pos 0) (supply_columns p.classes)

-- Where the identities hold, a product's supply at purchasers' prices is the sum of its purchases over all uses.
abbrev pub SupplyIsPurchased : Type 0
SupplyIsPurchased =
    (p : ProblemFacts) (t : TableFacts) → IsProblem p → IsTableOf p t → MeetsIdentities t → (i : ProductId)
    → supply_at_purchasers p.classes t i ≡ int_sum_by (λ q. total_of t (total.Purchase i q)) (columns p.classes)
