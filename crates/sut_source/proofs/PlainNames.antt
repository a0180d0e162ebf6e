-- The names of measures need no quotes.
use Rattle.std.proofs.Common.{◌≡◌, ℕ, [], true, false, Option, Some, None, refl}
use Rattle.std.specs.Prelude.{unwrap_or}
use Rattle.sut_text.specs.Text.{needs_quotes}
use Rattle.sut_records.specs.Plain.{ArePlain}
use Rattle.sut_classes.specs.ClassFile.{is_code_of}
use Rattle.sut_classes.specs.ClassLists.{ClassLists, Code}
use Rattle.sut_classes.specs.Kept.{IsClasses}
use Rattle.sut_classes.specs.Places.{code_at}
use Rattle.sut_classes.specs.declared.ids.Axis.{Axis}
use Rattle.sut_classes.specs.declared.ids.Axis.TheVariants as axis
use Rattle.sut_classes.specs.declared.ids.Column.{Column}
use Rattle.sut_classes.specs.declared.ids.Column.TheVariants as column
use Rattle.sut_classes.proofs.PlainLines.{plain-code}
use Rattle.sut_measures.specs.Names.{cell_name, code, column_code, measure_name, name_list, total_name}
use Rattle.sut_measures.specs.declared.measures.Cell.{Cell}
use Rattle.sut_measures.specs.declared.measures.Cell.TheVariants as cell
use Rattle.sut_measures.specs.declared.measures.Total.{Total}
use Rattle.sut_measures.specs.declared.measures.Total.TheVariants as total
use Rattle.sut_measures.specs.declared.measures.Measure.{Measure}
use Rattle.sut_measures.specs.declared.measures.Measure.TheVariants as measure

there-plain : (a : Axis) (o : Option Code) → ((text : Code) → o ≡ Some text → is_code_of a text ≡ true) → needs_quotes (unwrap_or o []) ≡ false
there-plain a None lawful = refl
there-plain a (Some text) lawful = plain-code a text (lawful text refl)

module _ (cs : ClassLists) (kept : IsClasses cs) where
  at : (a : Axis) (n : ℕ) → needs_quotes (code cs a n) ≡ false
  at a n = there-plain a (code_at cs a n) (kept.lawful a n)

  of_column : (q : Column) → needs_quotes (column_code cs q) ≡ false
  of_column (column.Industry j) = at axis.Industry j.0
  of_column (column.Final f) = at axis.Final f.0

  cell-plain : (c : Cell) → ArePlain (name_list (cell_name cs c))
  cell-plain (cell.Make i j) = (refl, (at axis.Product i.0, (at axis.Industry j.0, (refl, tt))))
  cell-plain (cell.Import i) = (refl, (at axis.Product i.0, (refl, (refl, tt))))
  cell-plain (cell.Basic i q) = (refl, (at axis.Product i.0, (of_column q, (refl, tt))))
  cell-plain (cell.Margin k i q) = (refl, (at axis.Margin k.0, (at axis.Product i.0, (of_column q, tt))))
  cell-plain (cell.Tax t i q) = (refl, (at axis.Tax t.0, (at axis.Product i.0, (of_column q, tt))))
  cell-plain (cell.Service i k) = (refl, (at axis.Product i.0, (at axis.Margin k.0, (refl, tt))))
  cell-plain (cell.Added v j) = (refl, (at axis.Item v.0, (at axis.Industry j.0, (refl, tt))))

  total-plain : (u : Total) → ArePlain (name_list (total_name cs u))
  total-plain (total.Purchase i q) = (refl, (at axis.Product i.0, (of_column q, (refl, tt))))
  total-plain (total.Supply i) = (refl, (at axis.Product i.0, (refl, (refl, tt))))
  total-plain (total.Output j) = (refl, (at axis.Industry j.0, (refl, (refl, tt))))
  total-plain (total.Inputs j) = (refl, (at axis.Industry j.0, (refl, (refl, tt))))
  total-plain (total.ValueAdded j) = (refl, (at axis.Industry j.0, (refl, (refl, tt))))
  total-plain (total.ItemTotal v) = (refl, (at axis.Item v.0, (refl, (refl, tt))))
  total-plain (total.FinalTotal f) = (refl, (at axis.Final f.0, (refl, (refl, tt))))
  total-plain total.ImportTotal = (refl, (refl, (refl, (refl, tt))))
  total-plain (total.MarginTotal k) = (refl, (at axis.Margin k.0, (refl, (refl, tt))))
  total-plain (total.MarginProduct k i) = (refl, (at axis.Margin k.0, (at axis.Product i.0, (refl, tt))))
  total-plain (total.TaxTotal t) = (refl, (at axis.Tax t.0, (refl, (refl, tt))))
  total-plain (total.TaxProduct t i) = (refl, (at axis.Tax t.0, (at axis.Product i.0, (refl, tt))))
  total-plain total.Gdp = (refl, (refl, (refl, (refl, tt))))
  total-plain (total.MakeGroup g j) = (refl, (at axis.ProductGroup g.0, (at axis.Industry j.0, (refl, tt))))
  total-plain (total.ImportGroup g) = (refl, (at axis.ProductGroup g.0, (refl, (refl, tt))))
  total-plain (total.PurchaseGroup g q) = (refl, (at axis.ProductGroup g.0, (of_column q, (refl, tt))))
  total-plain (total.MarginGroup k g) = (refl, (at axis.Margin k.0, (at axis.ProductGroup g.0, (refl, tt))))
  total-plain (total.TaxGroup t g) = (refl, (at axis.Tax t.0, (at axis.ProductGroup g.0, (refl, tt))))
  total-plain (total.ItemGroup v h) = (refl, (at axis.Item v.0, (at axis.IndustryGroup h.0, (refl, tt))))

  pub name-plain : (m : Measure) → ArePlain (name_list (measure_name cs m))
  name-plain (measure.Cell c) = cell-plain c
  name-plain (measure.Total u) = total-plain u
