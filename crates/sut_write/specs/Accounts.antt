-- `accounts.csv`: the accounts of the year, entry by entry.
use Rattle.std.specs.Prelude.{ℕ, ℤ, List, [], ◌∷◌, ◌++◌, map, codes}
use Rattle.std.specs.List.{flat_map}
use Rattle.sut_text.specs.Text.{whole_text, tagged, file_text}
use Rattle.sut_classes.specs.ClassLists.{ClassLists}
use Rattle.sut_classes.specs.declared.ids.ProductId.{ProductId}
use Rattle.sut_classes.specs.declared.ids.IndustryId.{IndustryId}
use Rattle.sut_classes.specs.declared.ids.FinalId.{FinalId}
use Rattle.sut_classes.specs.declared.ids.ItemId.{ItemId}
use Rattle.sut_measures.specs.Names.{product_code, industry_code, final_code, item_code}
use Rattle.sut_measures.specs.declared.measures.Total.TheVariants as total
use Rattle.sut_tables.specs.TableFacts.{TableFacts}
use Rattle.sut_tables.specs.Identities.{used_and_serving}
use Rattle.sut_tables.specs.Gdp.{production, income, expenditure}
use Rattle.sut_write.specs.Places.{products, industries, finals, items}
use Rattle.sut_write.specs.Numbers.{all_inputs, all_outputs, all_taxes, total_of}

abbrev pub entry : List ℕ → List ℕ → ℤ → List (List ℕ)
entry account name value = account ∷ name ∷ whole_text value ∷ []

abbrev pub production_entries : ClassLists → TableFacts → List (List (List ℕ))
production_entries cs t =
    entry (codes "production") (codes "output") (all_outputs cs t)
    ∷ entry (codes "production") (codes "intermediate") (all_inputs cs t)
    ∷ entry (codes "production") (codes "taxes") (all_taxes cs t)
    ∷ entry (codes "production") (codes "gdp") (production t) ∷ []

abbrev pub item_entry : ClassLists → TableFacts → ItemId → List (List ℕ)
item_entry cs t v = entry (codes "income") (tagged (codes "item") (item_code cs v)) (total_of t (total.ItemTotal v))

abbrev pub income_entries : ClassLists → TableFacts → List (List (List ℕ))
income_entries cs t =
    map (item_entry cs t) (items cs)
    ++ entry (codes "income") (codes "taxes") (all_taxes cs t)
    ∷ entry (codes "income") (codes "gdp") (income t) ∷ []

abbrev pub final_entry : ClassLists → TableFacts → FinalId → List (List ℕ)
final_entry cs t f = entry (codes "expenditure") (tagged (codes "final") (final_code cs f)) (total_of t (total.FinalTotal f))

abbrev pub expenditure_entries : ClassLists → TableFacts → List (List (List ℕ))
expenditure_entries cs t =
    map (final_entry cs t) (finals cs)
    ++ entry (codes "expenditure") (codes "imports") (total_of t total.ImportTotal)
    ∷ entry (codes "expenditure") (codes "gdp") (expenditure t) ∷ []

abbrev pub industry_entries : ClassLists → TableFacts → IndustryId → List (List (List ℕ))
industry_entries cs t j =
    entry (tagged (codes "industry") (industry_code cs j)) (codes "output") (total_of t (total.Output j))
    ∷ entry (tagged (codes "industry") (industry_code cs j)) (codes "inputs") (total_of t (total.Inputs j))
    ∷ entry (tagged (codes "industry") (industry_code cs j)) (codes "value_added") (total_of t (total.ValueAdded j)) ∷ []

-- what is used of a product: its basics and its services
abbrev pub product_entries : ClassLists → TableFacts → ProductId → List (List (List ℕ))
product_entries cs t i =
    entry (tagged (codes "product") (product_code cs i)) (codes "supply") (total_of t (total.Supply i))
    ∷ entry (tagged (codes "product") (product_code cs i)) (codes "used") (used_and_serving t i) ∷ []

abbrev pub account_lines : ClassLists → TableFacts → List (List (List ℕ))
account_lines cs t =
    production_entries cs t
    ++ income_entries cs t
    ++ expenditure_entries cs t
    ++ flat_map (industry_entries cs t) (industries cs)
    ++ flat_map (product_entries cs t) (products cs)

unfoldable pub accounts_text : ClassLists → TableFacts → List ℕ
accounts_text cs t = file_text (codes "account" ∷ codes "entry" ∷ codes "value" ∷ []) (account_lines cs t)
