-- The derived orders are those of the keys.
use Rattle.std.proofs.Common.{◌≡◌, refl, sym, ◌∙◌, ap}
use Rattle.std.specs.declared.cmp.Ordering.{Ordering}
use Rattle.std.specs.declared.cmp.Ordering.TheVariants.{Less, Equal, Greater}
use Rattle.std.specs.Ordering.{nat_cmp, ordering_then}
use Rattle.std.specs.Cmp.Lexicographic.{slice_cmp}
use Rattle.std.specs.Cmp.Lexicographic.{nat_list_cmp_total}
use Rattle.std.specs.Ordering.{ordering_reverse}
use Rattle.sut_classes.specs.declared.ids.Column.TheVariants as column
use Rattle.sut_measures.specs.Keys.{account_key, cell_key, total_key, measure_key}
use Rattle.sut_measures.specs.declared.accounts.Account.{Account}
use Rattle.sut_measures.specs.declared.accounts.Account.TheVariants as account
use Rattle.sut_measures.specs.declared.measures.Cell.{Cell}
use Rattle.sut_measures.specs.declared.measures.Cell.TheVariants as cell
use Rattle.sut_measures.specs.declared.measures.Total.{Total}
use Rattle.sut_measures.specs.declared.measures.Total.TheVariants as total
use Rattle.sut_measures.specs.declared.measures.Measure.{Measure}
use Rattle.sut_measures.specs.declared.measures.Measure.TheVariants as measure
use Rattle.sut_measures.specs.contracts.accounts.AccountOrd.TheImpl as account_ord
use Rattle.sut_measures.specs.contracts.measures.CellOrd.TheImpl as cell_ord
use Rattle.sut_measures.specs.contracts.measures.TotalOrd.TheImpl as total_ord
use Rattle.sut_measures.specs.contracts.measures.MeasureOrd.TheImpl as measure_ord

pub then_equal : (o : Ordering) → ordering_then o Equal ≡ o
then_equal Less = refl
then_equal Equal = refl
then_equal Greater = refl

pub account_order : (a b : Account) → (account_ord.ghosts).cmp a b ≡ slice_cmp nat_cmp (account_key a) (account_key b)
account_order (account.Supplied i) (account.Supplied i2) = simp then_equal
account_order (account.Used i) (account.Used i2) = simp then_equal
account_order (account.Bought i (column.Industry m)) (account.Bought i2 (column.Industry m2)) = simp then_equal
account_order (account.Bought i (column.Industry m)) (account.Bought i2 (column.Final m2)) = refl
account_order (account.Bought i (column.Final m)) (account.Bought i2 (column.Industry m2)) = refl
account_order (account.Bought i (column.Final m)) (account.Bought i2 (column.Final m2)) = simp then_equal
account_order (account.Buying j) (account.Buying j2) = simp then_equal
account_order (account.Adding j) (account.Adding j2) = simp then_equal
account_order (account.Industry j) (account.Industry j2) = simp then_equal
account_order (account.Making j) (account.Making j2) = simp then_equal
account_order (account.Final f) (account.Final f2) = simp then_equal
account_order (account.Item v) (account.Item v2) = simp then_equal
account_order (account.Services k) (account.Services k2) = simp then_equal
account_order (account.Margins k) (account.Margins k2) = simp then_equal
account_order (account.MarginOf k i) (account.MarginOf k2 i2) = simp then_equal
account_order (account.Taxes t) (account.Taxes t2) = simp then_equal
account_order (account.TaxOf t i) (account.TaxOf t2 i2) = simp then_equal
account_order (account.MakingIn g j) (account.MakingIn g2 j2) = simp then_equal
account_order (account.Importing g) (account.Importing g2) = simp then_equal
account_order (account.BuyingIn g (column.Industry m)) (account.BuyingIn g2 (column.Industry m2)) = simp then_equal
account_order (account.BuyingIn g (column.Industry m)) (account.BuyingIn g2 (column.Final m2)) = refl
account_order (account.BuyingIn g (column.Final m)) (account.BuyingIn g2 (column.Industry m2)) = refl
account_order (account.BuyingIn g (column.Final m)) (account.BuyingIn g2 (column.Final m2)) = simp then_equal
account_order (account.MarginIn k g) (account.MarginIn k2 g2) = simp then_equal
account_order (account.TaxIn t g) (account.TaxIn t2 g2) = simp then_equal
account_order (account.ItemIn v h) (account.ItemIn v2 h2) = simp then_equal
account_order account.Imports account.Imports = refl
account_order account.Spending account.Spending = refl
account_order account.Income account.Income = refl
account_order _ _ = refl

pub cell_order : (a b : Cell) → (cell_ord.ghosts).cmp a b ≡ slice_cmp nat_cmp (cell_key a) (cell_key b)
cell_order (cell.Make i j) (cell.Make i2 j2) = simp then_equal
cell_order (cell.Import i) (cell.Import i2) = simp then_equal
cell_order (cell.Basic i (column.Industry m)) (cell.Basic i2 (column.Industry m2)) = simp then_equal
cell_order (cell.Basic i (column.Industry m)) (cell.Basic i2 (column.Final m2)) = refl
cell_order (cell.Basic i (column.Final m)) (cell.Basic i2 (column.Industry m2)) = refl
cell_order (cell.Basic i (column.Final m)) (cell.Basic i2 (column.Final m2)) = simp then_equal
cell_order (cell.Margin k i (column.Industry m)) (cell.Margin k2 i2 (column.Industry m2)) = simp then_equal
cell_order (cell.Margin k i (column.Industry m)) (cell.Margin k2 i2 (column.Final m2)) = refl
cell_order (cell.Margin k i (column.Final m)) (cell.Margin k2 i2 (column.Industry m2)) = refl
cell_order (cell.Margin k i (column.Final m)) (cell.Margin k2 i2 (column.Final m2)) = simp then_equal
cell_order (cell.Tax t i (column.Industry m)) (cell.Tax t2 i2 (column.Industry m2)) = simp then_equal
cell_order (cell.Tax t i (column.Industry m)) (cell.Tax t2 i2 (column.Final m2)) = refl
cell_order (cell.Tax t i (column.Final m)) (cell.Tax t2 i2 (column.Industry m2)) = refl
cell_order (cell.Tax t i (column.Final m)) (cell.Tax t2 i2 (column.Final m2)) = simp then_equal
cell_order (cell.Service i k) (cell.Service i2 k2) = simp then_equal
cell_order (cell.Added v j) (cell.Added v2 j2) = simp then_equal
cell_order _ _ = refl

pub total_order : (a b : Total) → (total_ord.ghosts).cmp a b ≡ slice_cmp nat_cmp (total_key a) (total_key b)
total_order (total.Purchase i (column.Industry m)) (total.Purchase i2 (column.Industry m2)) = simp then_equal
total_order (total.Purchase i (column.Industry m)) (total.Purchase i2 (column.Final m2)) = refl
total_order (total.Purchase i (column.Final m)) (total.Purchase i2 (column.Industry m2)) = refl
total_order (total.Purchase i (column.Final m)) (total.Purchase i2 (column.Final m2)) = simp then_equal
total_order (total.Supply i) (total.Supply i2) = simp then_equal
total_order (total.Output j) (total.Output j2) = simp then_equal
total_order (total.Inputs j) (total.Inputs j2) = simp then_equal
total_order (total.ValueAdded j) (total.ValueAdded j2) = simp then_equal
total_order (total.ItemTotal v) (total.ItemTotal v2) = simp then_equal
total_order (total.FinalTotal f) (total.FinalTotal f2) = simp then_equal
total_order (total.MarginTotal k) (total.MarginTotal k2) = simp then_equal
total_order (total.MarginProduct k i) (total.MarginProduct k2 i2) = simp then_equal
total_order (total.TaxTotal t) (total.TaxTotal t2) = simp then_equal
total_order (total.TaxProduct t i) (total.TaxProduct t2 i2) = simp then_equal
total_order (total.MakeGroup g j) (total.MakeGroup g2 j2) = simp then_equal
total_order (total.ImportGroup g) (total.ImportGroup g2) = simp then_equal
total_order (total.PurchaseGroup g (column.Industry m)) (total.PurchaseGroup g2 (column.Industry m2)) = simp then_equal
total_order (total.PurchaseGroup g (column.Industry m)) (total.PurchaseGroup g2 (column.Final m2)) = refl
total_order (total.PurchaseGroup g (column.Final m)) (total.PurchaseGroup g2 (column.Industry m2)) = refl
total_order (total.PurchaseGroup g (column.Final m)) (total.PurchaseGroup g2 (column.Final m2)) = simp then_equal
total_order (total.MarginGroup k g) (total.MarginGroup k2 g2) = simp then_equal
total_order (total.TaxGroup t g) (total.TaxGroup t2 g2) = simp then_equal
total_order (total.ItemGroup v h) (total.ItemGroup v2 h2) = simp then_equal
total_order total.ImportTotal total.ImportTotal = refl
total_order total.Gdp total.Gdp = refl
total_order _ _ = refl

-- every cell is before every total
cell_before : (c : Cell) (u : Total) → slice_cmp nat_cmp (cell_key c) (total_key u) ≡ Less
cell_before (cell.Make i j) (total.Purchase i2 q2) = refl
cell_before (cell.Make i j) (total.Supply i2) = refl
cell_before (cell.Make i j) (total.Output j2) = refl
cell_before (cell.Make i j) (total.Inputs j2) = refl
cell_before (cell.Make i j) (total.ValueAdded j2) = refl
cell_before (cell.Make i j) (total.ItemTotal v2) = refl
cell_before (cell.Make i j) (total.FinalTotal f2) = refl
cell_before (cell.Make i j) total.ImportTotal = refl
cell_before (cell.Make i j) (total.MarginTotal k2) = refl
cell_before (cell.Make i j) (total.MarginProduct k2 i2) = refl
cell_before (cell.Make i j) (total.TaxTotal t2) = refl
cell_before (cell.Make i j) (total.TaxProduct t2 i2) = refl
cell_before (cell.Make i j) total.Gdp = refl
cell_before (cell.Make i j) (total.MakeGroup g2 j2) = refl
cell_before (cell.Make i j) (total.ImportGroup g2) = refl
cell_before (cell.Make i j) (total.PurchaseGroup g2 q2) = refl
cell_before (cell.Make i j) (total.MarginGroup k2 g2) = refl
cell_before (cell.Make i j) (total.TaxGroup t2 g2) = refl
cell_before (cell.Make i j) (total.ItemGroup v2 h2) = refl
cell_before (cell.Import i) (total.Purchase i2 q2) = refl
cell_before (cell.Import i) (total.Supply i2) = refl
cell_before (cell.Import i) (total.Output j2) = refl
cell_before (cell.Import i) (total.Inputs j2) = refl
cell_before (cell.Import i) (total.ValueAdded j2) = refl
cell_before (cell.Import i) (total.ItemTotal v2) = refl
cell_before (cell.Import i) (total.FinalTotal f2) = refl
cell_before (cell.Import i) total.ImportTotal = refl
cell_before (cell.Import i) (total.MarginTotal k2) = refl
cell_before (cell.Import i) (total.MarginProduct k2 i2) = refl
cell_before (cell.Import i) (total.TaxTotal t2) = refl
cell_before (cell.Import i) (total.TaxProduct t2 i2) = refl
cell_before (cell.Import i) total.Gdp = refl
cell_before (cell.Import i) (total.MakeGroup g2 j2) = refl
cell_before (cell.Import i) (total.ImportGroup g2) = refl
cell_before (cell.Import i) (total.PurchaseGroup g2 q2) = refl
cell_before (cell.Import i) (total.MarginGroup k2 g2) = refl
cell_before (cell.Import i) (total.TaxGroup t2 g2) = refl
cell_before (cell.Import i) (total.ItemGroup v2 h2) = refl
cell_before (cell.Basic i q) (total.Purchase i2 q2) = refl
cell_before (cell.Basic i q) (total.Supply i2) = refl
cell_before (cell.Basic i q) (total.Output j2) = refl
cell_before (cell.Basic i q) (total.Inputs j2) = refl
cell_before (cell.Basic i q) (total.ValueAdded j2) = refl
cell_before (cell.Basic i q) (total.ItemTotal v2) = refl
cell_before (cell.Basic i q) (total.FinalTotal f2) = refl
cell_before (cell.Basic i q) total.ImportTotal = refl
cell_before (cell.Basic i q) (total.MarginTotal k2) = refl
cell_before (cell.Basic i q) (total.MarginProduct k2 i2) = refl
cell_before (cell.Basic i q) (total.TaxTotal t2) = refl
cell_before (cell.Basic i q) (total.TaxProduct t2 i2) = refl
cell_before (cell.Basic i q) total.Gdp = refl
cell_before (cell.Basic i q) (total.MakeGroup g2 j2) = refl
cell_before (cell.Basic i q) (total.ImportGroup g2) = refl
cell_before (cell.Basic i q) (total.PurchaseGroup g2 q2) = refl
cell_before (cell.Basic i q) (total.MarginGroup k2 g2) = refl
cell_before (cell.Basic i q) (total.TaxGroup t2 g2) = refl
cell_before (cell.Basic i q) (total.ItemGroup v2 h2) = refl
cell_before (cell.Margin k i q) (total.Purchase i2 q2) = refl
cell_before (cell.Margin k i q) (total.Supply i2) = refl
cell_before (cell.Margin k i q) (total.Output j2) = refl
cell_before (cell.Margin k i q) (total.Inputs j2) = refl
cell_before (cell.Margin k i q) (total.ValueAdded j2) = refl
cell_before (cell.Margin k i q) (total.ItemTotal v2) = refl
cell_before (cell.Margin k i q) (total.FinalTotal f2) = refl
cell_before (cell.Margin k i q) total.ImportTotal = refl
cell_before (cell.Margin k i q) (total.MarginTotal k2) = refl
cell_before (cell.Margin k i q) (total.MarginProduct k2 i2) = refl
cell_before (cell.Margin k i q) (total.TaxTotal t2) = refl
cell_before (cell.Margin k i q) (total.TaxProduct t2 i2) = refl
cell_before (cell.Margin k i q) total.Gdp = refl
cell_before (cell.Margin k i q) (total.MakeGroup g2 j2) = refl
cell_before (cell.Margin k i q) (total.ImportGroup g2) = refl
cell_before (cell.Margin k i q) (total.PurchaseGroup g2 q2) = refl
cell_before (cell.Margin k i q) (total.MarginGroup k2 g2) = refl
cell_before (cell.Margin k i q) (total.TaxGroup t2 g2) = refl
cell_before (cell.Margin k i q) (total.ItemGroup v2 h2) = refl
cell_before (cell.Tax t i q) (total.Purchase i2 q2) = refl
cell_before (cell.Tax t i q) (total.Supply i2) = refl
cell_before (cell.Tax t i q) (total.Output j2) = refl
cell_before (cell.Tax t i q) (total.Inputs j2) = refl
cell_before (cell.Tax t i q) (total.ValueAdded j2) = refl
cell_before (cell.Tax t i q) (total.ItemTotal v2) = refl
cell_before (cell.Tax t i q) (total.FinalTotal f2) = refl
cell_before (cell.Tax t i q) total.ImportTotal = refl
cell_before (cell.Tax t i q) (total.MarginTotal k2) = refl
cell_before (cell.Tax t i q) (total.MarginProduct k2 i2) = refl
cell_before (cell.Tax t i q) (total.TaxTotal t2) = refl
cell_before (cell.Tax t i q) (total.TaxProduct t2 i2) = refl
cell_before (cell.Tax t i q) total.Gdp = refl
cell_before (cell.Tax t i q) (total.MakeGroup g2 j2) = refl
cell_before (cell.Tax t i q) (total.ImportGroup g2) = refl
cell_before (cell.Tax t i q) (total.PurchaseGroup g2 q2) = refl
cell_before (cell.Tax t i q) (total.MarginGroup k2 g2) = refl
cell_before (cell.Tax t i q) (total.TaxGroup t2 g2) = refl
cell_before (cell.Tax t i q) (total.ItemGroup v2 h2) = refl
cell_before (cell.Service i k) (total.Purchase i2 q2) = refl
cell_before (cell.Service i k) (total.Supply i2) = refl
cell_before (cell.Service i k) (total.Output j2) = refl
cell_before (cell.Service i k) (total.Inputs j2) = refl
cell_before (cell.Service i k) (total.ValueAdded j2) = refl
cell_before (cell.Service i k) (total.ItemTotal v2) = refl
cell_before (cell.Service i k) (total.FinalTotal f2) = refl
cell_before (cell.Service i k) total.ImportTotal = refl
cell_before (cell.Service i k) (total.MarginTotal k2) = refl
cell_before (cell.Service i k) (total.MarginProduct k2 i2) = refl
cell_before (cell.Service i k) (total.TaxTotal t2) = refl
cell_before (cell.Service i k) (total.TaxProduct t2 i2) = refl
cell_before (cell.Service i k) total.Gdp = refl
cell_before (cell.Service i k) (total.MakeGroup g2 j2) = refl
cell_before (cell.Service i k) (total.ImportGroup g2) = refl
cell_before (cell.Service i k) (total.PurchaseGroup g2 q2) = refl
cell_before (cell.Service i k) (total.MarginGroup k2 g2) = refl
cell_before (cell.Service i k) (total.TaxGroup t2 g2) = refl
cell_before (cell.Service i k) (total.ItemGroup v2 h2) = refl
cell_before (cell.Added v j) (total.Purchase i2 q2) = refl
cell_before (cell.Added v j) (total.Supply i2) = refl
cell_before (cell.Added v j) (total.Output j2) = refl
cell_before (cell.Added v j) (total.Inputs j2) = refl
cell_before (cell.Added v j) (total.ValueAdded j2) = refl
cell_before (cell.Added v j) (total.ItemTotal v2) = refl
cell_before (cell.Added v j) (total.FinalTotal f2) = refl
cell_before (cell.Added v j) total.ImportTotal = refl
cell_before (cell.Added v j) (total.MarginTotal k2) = refl
cell_before (cell.Added v j) (total.MarginProduct k2 i2) = refl
cell_before (cell.Added v j) (total.TaxTotal t2) = refl
cell_before (cell.Added v j) (total.TaxProduct t2 i2) = refl
cell_before (cell.Added v j) total.Gdp = refl
cell_before (cell.Added v j) (total.MakeGroup g2 j2) = refl
cell_before (cell.Added v j) (total.ImportGroup g2) = refl
cell_before (cell.Added v j) (total.PurchaseGroup g2 q2) = refl
cell_before (cell.Added v j) (total.MarginGroup k2 g2) = refl
cell_before (cell.Added v j) (total.TaxGroup t2 g2) = refl
cell_before (cell.Added v j) (total.ItemGroup v2 h2) = refl

pub measure_order : (a b : Measure) → (measure_ord.ghosts).cmp a b ≡ slice_cmp nat_cmp (measure_key a) (measure_key b)
measure_order (measure.Cell c) (measure.Cell d) = cell_order c d
measure_order (measure.Total t) (measure.Total u) = total_order t u
measure_order (measure.Cell c) (measure.Total u) = sym (cell_before c u)
measure_order (measure.Total u) (measure.Cell c) =
    sym (nat_list_cmp_total.antisymm (total_key u) (cell_key c) ∙ ap ordering_reverse (cell_before c u))
