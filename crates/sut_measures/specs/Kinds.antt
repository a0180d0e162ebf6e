-- The kinds of names, each with its word: what a name's first field may be.
use Rattle.std.specs.Prelude.{ℕ, List, [], ◌∷◌, codes, Option}
use Rattle.std.specs.List.{find}
use Rattle.std.specs.Str.{bytes_eq}
use Rattle.sut_measures.specs.declared.kinds.CellKind.{CellKind}
use Rattle.sut_measures.specs.declared.kinds.CellKind.TheVariants as cell
use Rattle.sut_measures.specs.declared.kinds.TotalKind.{TotalKind}
use Rattle.sut_measures.specs.declared.kinds.TotalKind.TheVariants as total
use Rattle.sut_measures.specs.declared.kinds.GroupKind.{GroupKind}
use Rattle.sut_measures.specs.declared.kinds.GroupKind.TheVariants as group
use Rattle.sut_measures.specs.declared.kinds.AccountKind.{AccountKind}
use Rattle.sut_measures.specs.declared.kinds.AccountKind.TheVariants as account
use Rattle.sut_measures.specs.declared.kinds.GroupAccountKind.{GroupAccountKind}
use Rattle.sut_measures.specs.declared.kinds.GroupAccountKind.TheVariants as group_account

-- the one of these kinds whose word this is
abbrev pub kind_named : {K : Type 0} → (K → List ℕ) → List K → List ℕ → Option K
kind_named word_of kinds word = find (λ k. bytes_eq word (word_of k)) kinds

abbrev pub cell_word : CellKind → List ℕ
cell_word cell.Make = codes "make"
cell_word cell.Import = codes "import"
cell_word cell.Basic = codes "basic"
cell_word cell.Margin = codes "margin"
cell_word cell.Tax = codes "tax"
cell_word cell.Service = codes "service"
cell_word cell.Added = codes "added"

abbrev pub cell_kinds : List CellKind
cell_kinds = cell.Make ∷ cell.Import ∷ cell.Basic ∷ cell.Margin ∷ cell.Tax ∷ cell.Service ∷ cell.Added ∷ []

abbrev pub total_word : TotalKind → List ℕ
total_word total.Purchase = codes "purchase"
total_word total.Supply = codes "supply"
total_word total.Output = codes "output"
total_word total.Inputs = codes "inputs"
total_word total.ValueAdded = codes "value_added"
total_word total.ItemTotal = codes "item_total"
total_word total.FinalTotal = codes "final_total"
total_word total.ImportTotal = codes "import_total"
total_word total.MarginTotal = codes "margin_total"
total_word total.MarginProduct = codes "margin_product"
total_word total.TaxTotal = codes "tax_total"
total_word total.TaxProduct = codes "tax_product"
total_word total.Gdp = codes "gdp"

abbrev pub total_kinds : List TotalKind
total_kinds =
    total.Purchase ∷ total.Supply ∷ total.Output ∷ total.Inputs ∷ total.ValueAdded ∷ total.ItemTotal ∷ total.FinalTotal
    ∷ total.ImportTotal ∷ total.MarginTotal ∷ total.MarginProduct ∷ total.TaxTotal ∷ total.TaxProduct ∷ total.Gdp ∷ []

abbrev pub group_word : GroupKind → List ℕ
group_word group.Make = codes "make_group"
group_word group.Import = codes "import_group"
group_word group.Purchase = codes "purchase_group"
group_word group.Margin = codes "margin_group"
group_word group.Tax = codes "tax_group"
group_word group.Item = codes "item_group"

abbrev pub group_kinds : List GroupKind
group_kinds = group.Make ∷ group.Import ∷ group.Purchase ∷ group.Margin ∷ group.Tax ∷ group.Item ∷ []

abbrev pub account_word : AccountKind → List ℕ
account_word account.Supplied = codes "supplied"
account_word account.Used = codes "used"
account_word account.Bought = codes "bought"
account_word account.Buying = codes "buying"
account_word account.Adding = codes "adding"
account_word account.Industry = codes "industry"
account_word account.Making = codes "making"
account_word account.Final = codes "final"
account_word account.Item = codes "item"
account_word account.Imports = codes "imports"
account_word account.Services = codes "services"
account_word account.Margins = codes "margins"
account_word account.MarginOf = codes "margin_of"
account_word account.Taxes = codes "taxes"
account_word account.TaxOf = codes "tax_of"
account_word account.Spending = codes "spending"
account_word account.Income = codes "income"

abbrev pub account_kinds : List AccountKind
account_kinds =
    account.Supplied ∷ account.Used ∷ account.Bought ∷ account.Buying ∷ account.Adding ∷ account.Industry
    ∷ account.Making ∷ account.Final ∷ account.Item ∷ account.Imports ∷ account.Services ∷ account.Margins
    ∷ account.MarginOf ∷ account.Taxes ∷ account.TaxOf ∷ account.Spending ∷ account.Income ∷ []

abbrev pub group_account_word : GroupAccountKind → List ℕ
group_account_word group_account.Making = codes "making_in"
group_account_word group_account.Importing = codes "importing"
group_account_word group_account.Buying = codes "buying_in"
group_account_word group_account.Margin = codes "margin_in"
group_account_word group_account.Tax = codes "tax_in"
group_account_word group_account.Item = codes "item_in"

abbrev pub group_account_kinds : List GroupAccountKind
group_account_kinds =
    group_account.Making ∷ group_account.Importing ∷ group_account.Buying ∷ group_account.Margin
    ∷ group_account.Tax ∷ group_account.Item ∷ []
