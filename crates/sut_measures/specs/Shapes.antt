-- The shape of each measure and account: a word, and up to three places. Names, status words and fitting follow it.
use Rattle.std.specs.Prelude.{ℕ, Bool, true, ◌&&◌, List, [], ◌∷◌, ◌++◌, codes, length, nat_lt}
use Rattle.sut_classes.specs.ClassLists.{ClassLists}
use Rattle.sut_classes.specs.Places.{kind_at}
use Rattle.sut_classes.specs.declared.ids.ProductId.{ProductId}
use Rattle.sut_classes.specs.declared.ids.IndustryId.{IndustryId}
use Rattle.sut_classes.specs.declared.ids.FinalId.{FinalId}
use Rattle.sut_classes.specs.declared.ids.ItemId.{ItemId}
use Rattle.sut_classes.specs.declared.ids.MarginId.{MarginId}
use Rattle.sut_classes.specs.declared.ids.TaxId.{TaxId}
use Rattle.sut_classes.specs.declared.ids.ProductGroupId.{ProductGroupId}
use Rattle.sut_classes.specs.declared.ids.IndustryGroupId.{IndustryGroupId}
use Rattle.sut_classes.specs.declared.ids.Axis.{Axis}
use Rattle.sut_classes.specs.declared.ids.Axis.TheVariants as axis
use Rattle.sut_measures.specs.Fits.{has_column, is_kind}
use Rattle.sut_measures.specs.Names.{code, column_code}
use Rattle.sut_measures.specs.Words.{nth, column_words}
use Rattle.sut_measures.specs.declared.measures.Cell.{Cell}
use Rattle.sut_measures.specs.declared.measures.Cell.TheVariants as cell
use Rattle.sut_measures.specs.declared.measures.Total.{Total}
use Rattle.sut_measures.specs.declared.measures.Total.TheVariants as total
use Rattle.sut_measures.specs.declared.measures.Measure.{Measure}
use Rattle.sut_measures.specs.declared.measures.Measure.TheVariants as measure
use Rattle.sut_measures.specs.declared.accounts.Account.{Account}
use Rattle.sut_measures.specs.declared.accounts.Account.TheVariants as account
use Rattle.sut_measures.specs.declared.shapes.Place.{Place}
use Rattle.sut_measures.specs.declared.shapes.Place.TheVariants as place
use Rattle.sut_measures.specs.declared.shapes.Shape as declared

-- a word and three places
pub record Shape : Type 0 where
  pub word : List ℕ
  pub a : Place
  pub b : Place
  pub c : Place

-- the shape that the code passes about
abbrev pub seen : declared.Shape → Shape
seen s = record { word = s.0.now; a = s.1; b = s.2; c = s.3 }

abbrev pub shape0 : List ℕ → Shape
shape0 word = record { word = word; a = place.Nothing; b = place.Nothing; c = place.Nothing }

abbrev pub shape1 : List ℕ → Place → Shape
shape1 word a = record { word = word; a = a; b = place.Nothing; c = place.Nothing }

abbrev pub shape2 : List ℕ → Place → Place → Shape
shape2 word a b = record { word = word; a = a; b = b; c = place.Nothing }

abbrev pub shape3 : List ℕ → Place → Place → Place → Shape
shape3 word a b c = record { word = word; a = a; b = b; c = c }

abbrev pub at_product : ProductId → Place
at_product i = place.Code axis.Product i.0

abbrev pub at_industry : IndustryId → Place
at_industry j = place.Code axis.Industry j.0

abbrev pub at_final : FinalId → Place
at_final f = place.Code axis.Final f.0

abbrev pub at_item : ItemId → Place
at_item v = place.Code axis.Item v.0

abbrev pub at_margin : MarginId → Place
at_margin k = place.Code axis.Margin k.0

abbrev pub at_tax : TaxId → Place
at_tax t = place.Code axis.Tax t.0

abbrev pub at_product_group : ProductGroupId → Place
at_product_group g = place.Code axis.ProductGroup g.0

abbrev pub at_industry_group : IndustryGroupId → Place
at_industry_group h = place.Code axis.IndustryGroup h.0

abbrev pub cell_shape : Cell → Shape
cell_shape (cell.Make i j) = shape2 (codes "make") (at_product i) (at_industry j)
cell_shape (cell.Import i) = shape1 (codes "import") (at_product i)
cell_shape (cell.Basic i q) = shape2 (codes "basic") (at_product i) (place.Buyer q)
cell_shape (cell.Margin k i q) = shape3 (codes "margin") (at_margin k) (at_product i) (place.Buyer q)
cell_shape (cell.Tax t i q) = shape3 (codes "tax") (at_tax t) (at_product i) (place.Buyer q)
cell_shape (cell.Service i k) = shape2 (codes "service") (at_product i) (at_margin k)
cell_shape (cell.Added v j) = shape2 (codes "added") (at_item v) (at_industry j)

abbrev pub total_shape : Total → Shape
total_shape (total.Purchase i q) = shape2 (codes "purchase") (at_product i) (place.Buyer q)
total_shape (total.Supply i) = shape1 (codes "supply") (at_product i)
total_shape (total.Output j) = shape1 (codes "output") (at_industry j)
total_shape (total.Inputs j) = shape1 (codes "inputs") (at_industry j)
total_shape (total.ValueAdded j) = shape1 (codes "value_added") (at_industry j)
total_shape (total.ItemTotal v) = shape1 (codes "item_total") (at_item v)
total_shape (total.FinalTotal f) = shape1 (codes "final_total") (at_final f)
total_shape total.ImportTotal = shape0 (codes "import_total")
total_shape (total.MarginTotal k) = shape1 (codes "margin_total") (at_margin k)
total_shape (total.MarginProduct k i) = shape2 (codes "margin_product") (at_margin k) (at_product i)
total_shape (total.TaxTotal t) = shape1 (codes "tax_total") (at_tax t)
total_shape (total.TaxProduct t i) = shape2 (codes "tax_product") (at_tax t) (at_product i)
total_shape total.Gdp = shape0 (codes "gdp")
total_shape (total.MakeGroup g j) = shape2 (codes "make_group") (at_product_group g) (at_industry j)
total_shape (total.ImportGroup g) = shape1 (codes "import_group") (at_product_group g)
total_shape (total.PurchaseGroup g q) = shape2 (codes "purchase_group") (at_product_group g) (place.Buyer q)
total_shape (total.MarginGroup k g) = shape2 (codes "margin_group") (at_margin k) (at_product_group g)
total_shape (total.TaxGroup t g) = shape2 (codes "tax_group") (at_tax t) (at_product_group g)
total_shape (total.ItemGroup v h) = shape2 (codes "item_group") (at_item v) (at_industry_group h)

abbrev pub account_shape : Account → Shape
account_shape (account.Supplied i) = shape1 (codes "supplied") (at_product i)
account_shape (account.Used i) = shape1 (codes "used") (at_product i)
account_shape (account.Bought i q) = shape2 (codes "bought") (at_product i) (place.Buyer q)
account_shape (account.Buying j) = shape1 (codes "buying") (at_industry j)
account_shape (account.Adding j) = shape1 (codes "adding") (at_industry j)
account_shape (account.Industry j) = shape1 (codes "industry") (at_industry j)
account_shape (account.Making j) = shape1 (codes "making") (at_industry j)
account_shape (account.Final f) = shape1 (codes "final") (at_final f)
account_shape (account.Item v) = shape1 (codes "item") (at_item v)
account_shape account.Imports = shape0 (codes "imports")
account_shape (account.Services k) = shape1 (codes "services") (at_margin k)
account_shape (account.Margins k) = shape1 (codes "margins") (at_margin k)
account_shape (account.MarginOf k i) = shape2 (codes "margin_of") (at_margin k) (at_product i)
account_shape (account.Taxes t) = shape1 (codes "taxes") (at_tax t)
account_shape (account.TaxOf t i) = shape2 (codes "tax_of") (at_tax t) (at_product i)
account_shape account.Spending = shape0 (codes "spending")
account_shape account.Income = shape0 (codes "income")
account_shape (account.MakingIn g j) = shape2 (codes "making_in") (at_product_group g) (at_industry j)
account_shape (account.Importing g) = shape1 (codes "importing") (at_product_group g)
account_shape (account.BuyingIn g q) = shape2 (codes "buying_in") (at_product_group g) (place.Buyer q)
account_shape (account.MarginIn k g) = shape2 (codes "margin_in") (at_margin k) (at_product_group g)
account_shape (account.TaxIn t g) = shape2 (codes "tax_in") (at_tax t) (at_product_group g)
account_shape (account.ItemIn v h) = shape2 (codes "item_in") (at_item v) (at_industry_group h)

abbrev pub measure_shape : Measure → Shape
measure_shape (measure.Cell c) = cell_shape c
measure_shape (measure.Total t) = total_shape t

-- the field of a place in a name
abbrev pub place_text : ClassLists → Place → List ℕ
place_text cs place.Nothing = []
place_text cs (place.Code a n) = code cs a n
place_text cs (place.Buyer q) = column_code cs q

-- the words of a place in a status line
abbrev pub place_words : Place → List (List ℕ)
place_words place.Nothing = []
place_words (place.Code a n) = nth n ∷ []
place_words (place.Buyer q) = column_words q

-- the fields of a measure's name, and those of an account's
abbrev pub shape_fields : ClassLists → Shape → List (List ℕ)
shape_fields cs s = s.word ∷ place_text cs s.a ∷ place_text cs s.b ∷ place_text cs s.c ∷ []

abbrev pub account_shape_fields : ClassLists → Shape → List (List ℕ)
account_shape_fields cs s = s.word ∷ place_text cs s.a ∷ place_text cs s.b ∷ []

-- the words in a status line
abbrev pub shape_words : Shape → List (List ℕ)
shape_words s = s.word ∷ place_words s.a ++ place_words s.b ++ place_words s.c

-- the length of an axis's list
abbrev pub length_of : ClassLists → Axis → ℕ
length_of cs axis.Product = length cs.products
length_of cs axis.Industry = length cs.industries
length_of cs axis.Final = length cs.finals
length_of cs axis.Item = length cs.items
length_of cs axis.Margin = length cs.margins
length_of cs axis.Tax = length cs.taxes
length_of cs axis.ProductGroup = length cs.product_groups
length_of cs axis.IndustryGroup = length cs.industry_groups

-- the classes have the place
abbrev pub has_place : ClassLists → Place → Bool
has_place cs place.Nothing = true
has_place cs (place.Code a n) = nat_lt n (length_of cs a)
has_place cs (place.Buyer q) = has_column cs q

abbrev pub shape_fits : ClassLists → Shape → Bool
shape_fits cs s = has_place cs s.a && has_place cs s.b && has_place cs s.c

-- a service has its product's margin kind
abbrev pub has_right_kind : ClassLists → Cell → Bool
has_right_kind cs (cell.Service i k) = is_kind (kind_at cs i) k
has_right_kind cs _ = true
