-- The balances of a table that meets the identities (SNA 2008, 6.8 and chapter 14), and the sums of groups. Every `Problem` is as
-- `IsProblem` asks (`Problem::kept`); `Table::zeros` and `read_balanced` give tables of a problem, and where `first_open` answers
-- none a table meets the identities.
use Rattle.std.specs.Prelude.{◌≡◌, ◌+ℤ◌, List, filter}
use Rattle.sut_classes.specs.ClassLists.{ClassLists}
use Rattle.sut_classes.specs.declared.ids.Column.{Column}
use Rattle.sut_classes.specs.declared.ids.Column.TheVariants as column
use Rattle.sut_classes.specs.declared.ids.IndustryGroupId.{IndustryGroupId}
use Rattle.sut_classes.specs.declared.ids.IndustryId.{IndustryId}
use Rattle.sut_classes.specs.declared.ids.ItemId.{ItemId}
use Rattle.sut_classes.specs.declared.ids.MarginId.{MarginId}
use Rattle.sut_classes.specs.declared.ids.ProductGroupId.{ProductGroupId}
use Rattle.sut_classes.specs.declared.ids.ProductId.{ProductId}
use Rattle.sut_classes.specs.declared.ids.TaxId.{TaxId}
use Rattle.sut_classes.specs.Groups.{groups_of}
use Rattle.sut_measures.specs.Sums.{is_in, is_industry_in}
use Rattle.sut_measures.specs.declared.measures.Cell.TheVariants as cell
use Rattle.sut_measures.specs.declared.measures.Total.TheVariants as total
use Rattle.sut_tables.specs.Identities.{MeetsIdentities}
use Rattle.sut_tables.specs.ProblemFacts.{ProblemFacts}
use Rattle.sut_tables.specs.Problems.{IsProblem, IsTableOf}
use Rattle.sut_tables.specs.TableFacts.{TableFacts}
use Rattle.sut_tables.specs.Values.{int_sum_by}
use Rattle.sut_write.specs.Numbers.{cell_value, total_of}
use Rattle.sut_write.specs.Places.{finals, industries, margins, products}

-- The output of an industry is its inputs at purchasers' prices plus its value added.
abbrev pub IndustryBalances : Type 0
IndustryBalances =
    (t : TableFacts) → MeetsIdentities t → (j : IndustryId)
    → total_of t (total.Output j) ≡ total_of t (total.Inputs j) +ℤ total_of t (total.ValueAdded j)

-- The supply of a product at basic prices is its uses by industries and by final uses, and what it serves as margins.
abbrev pub ProductBalances : Type 0
ProductBalances =
    (p : ProblemFacts) (t : TableFacts) → IsProblem p → IsTableOf p t → MeetsIdentities t → (i : ProductId)
    → total_of t (total.Supply i)
    ≡ int_sum_by (λ j. cell_value t (cell.Basic i (column.Industry j))) (industries p.classes)
    +ℤ int_sum_by (λ f. cell_value t (cell.Basic i (column.Final f))) (finals p.classes)
    +ℤ int_sum_by (λ k. cell_value t (cell.Service i k)) (margins p.classes)

-- ---- groups

-- the products of a group, and the industries of one, in order
abbrev pub products_in : ClassLists → ProductGroupId → List ProductId
products_in cs g = filter (λ i. is_in (groups_of cs) i g) (products cs)

abbrev pub industries_in : ClassLists → IndustryGroupId → List IndustryId
industries_in cs h = filter (λ j. is_industry_in (groups_of cs) j h) (industries cs)

-- Over every table of a problem: the total of a group is the sum over its members, of what an industry makes, of imports, of
-- purchases in a column, of margins and taxes of a kind, and of an item of value added.
abbrev pub GroupSums : Type 0
GroupSums =
    (p : ProblemFacts) (t : TableFacts) → IsProblem p → IsTableOf p t
    → ((g : ProductGroupId) (j : IndustryId)
    → total_of t (total.MakeGroup g j) ≡ int_sum_by (λ i. cell_value t (cell.Make i j)) (products_in p.classes g))
    × ((g : ProductGroupId)
    → total_of t (total.ImportGroup g) ≡ int_sum_by (λ i. cell_value t (cell.Import i)) (products_in p.classes g))
    × ((g : ProductGroupId) (q : Column)
    → total_of t (total.PurchaseGroup g q) ≡ int_sum_by (λ i. total_of t (total.Purchase i q)) (products_in p.classes g))
    × ((k : MarginId) (g : ProductGroupId)
    → total_of t (total.MarginGroup k g) ≡ int_sum_by (λ i. total_of t (total.MarginProduct k i)) (products_in p.classes g))
    × ((x : TaxId) (g : ProductGroupId)
    → total_of t (total.TaxGroup x g) ≡ int_sum_by (λ i. total_of t (total.TaxProduct x i)) (products_in p.classes g))
    × ((v : ItemId) (h : IndustryGroupId)
    → total_of t (total.ItemGroup v h) ≡ int_sum_by (λ j. cell_value t (cell.Added v j)) (industries_in p.classes h))
