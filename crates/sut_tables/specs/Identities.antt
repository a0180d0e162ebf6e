-- The accounting identities: of each product, each industry and each margin kind.
use Rattle.std.specs.Prelude.{◌≡◌, Bool, true, false, ◌==◌, ℤ}
use Rattle.sut_measures.specs.Sums.{is_bought, is_industry}
use Rattle.sut_tables.specs.TableFacts.{TableFacts}
use Rattle.sut_tables.specs.Values.{sum_where}
use Rattle.sut_classes.specs.declared.ids.ProductId.{ProductId}
use Rattle.sut_classes.specs.declared.ids.IndustryId.{IndustryId}
use Rattle.sut_classes.specs.declared.ids.MarginId.{MarginId}
use Rattle.sut_measures.specs.declared.measures.Cell.{Cell}
use Rattle.sut_measures.specs.declared.measures.Cell.TheVariants as cell

-- makes of a product and its import
abbrev pub is_made_or_imported : ProductId → Cell → Bool
is_made_or_imported i (cell.Make n j) = n.0 == i.0
is_made_or_imported i (cell.Import n) = n.0 == i.0
is_made_or_imported i _ = false

-- basics of a product and its services
abbrev pub is_used_or_serving : ProductId → Cell → Bool
is_used_or_serving i (cell.Basic n q) = n.0 == i.0
is_used_or_serving i (cell.Service n k) = n.0 == i.0
is_used_or_serving i _ = false

-- makes of an industry
abbrev pub is_made_by : IndustryId → Cell → Bool
is_made_by j (cell.Make i m) = m.0 == j.0
is_made_by j _ = false

-- inputs of an industry, at purchasers' prices, and its added items
abbrev pub is_input_or_added : IndustryId → Cell → Bool
is_input_or_added j (cell.Added v m) = m.0 == j.0
is_input_or_added j c = is_bought (λ i. true) (λ q. is_industry q j) c

-- services of a margin kind
abbrev pub is_service_of : MarginId → Cell → Bool
is_service_of k (cell.Service i m) = m.0 == k.0
is_service_of k _ = false

-- margins of a kind
abbrev pub is_margin_of : MarginId → Cell → Bool
is_margin_of k (cell.Margin m i q) = m.0 == k.0
is_margin_of k _ = false

-- the two sides of each identity
abbrev pub made_and_imported : TableFacts → ProductId → ℤ
made_and_imported t i = sum_where (is_made_or_imported i) t.cells

abbrev pub used_and_serving : TableFacts → ProductId → ℤ
used_and_serving t i = sum_where (is_used_or_serving i) t.cells

abbrev pub made_by : TableFacts → IndustryId → ℤ
made_by t j = sum_where (is_made_by j) t.cells

abbrev pub inputs_and_added : TableFacts → IndustryId → ℤ
inputs_and_added t j = sum_where (is_input_or_added j) t.cells

abbrev pub services_of : TableFacts → MarginId → ℤ
services_of t k = sum_where (is_service_of k) t.cells

abbrev pub margins_of : TableFacts → MarginId → ℤ
margins_of t k = sum_where (is_margin_of k) t.cells

-- Makes plus import equal basics plus services; makes equal inputs plus added items; services equal margins.
-- Of a place that the classes don't have, both sides are empty sums.
pub record MeetsIdentities (t : TableFacts) : Type 0 where
  pub products : (i : ProductId) → made_and_imported t i ≡ used_and_serving t i
  pub industries : (j : IndustryId) → made_by t j ≡ inputs_and_added t j
  pub margins : (k : MarginId) → services_of t k ≡ margins_of t k
