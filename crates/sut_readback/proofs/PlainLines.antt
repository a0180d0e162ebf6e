-- The lines of a printed table need no quotes.
use Rattle.std.proofs.Common.{◌≡◌, ◌<◌, ◌^◌, ◌∷◌, ◌||◌, ℕ, suc, ℤ, pos, negsuc, List, [], Bool, true, false, Option, Some, None, cond, map, ne_eqb, refl, arith}
use Rattle.std.specs.Prelude.{All, ◌==◌, decimal, find, unwrap_or}
use Rattle.std.specs.Char.{digit_value}
use Rattle.std.specs.Str.Parse.{AllDigits}
use Rattle.std.proofs.lemmas.Fmt.{decimal_is_IsNumeral_wide}
use Rattle.std.proofs.lemmas.List.Elements.{All-head, All-tail}
use Rattle.std.proofs.lemmas.Str.Parse.{digit_from_value}
use Rattle.csv.specs.Reading.{strip_bom}
use lib.Signed.{mag}
use Rattle.sut_text.specs.Text.{file_text, needs_quotes, optional_text, whole_text}
use Rattle.sut_records.specs.RecordList.{Fields}
use Rattle.sut_records.specs.Plain.{ArePlain, ArePlainRows, IsPlainRow}
use Rattle.sut_classes.specs.ClassFile.{is_code_of}
use Rattle.sut_classes.specs.ClassLists.{ClassLists, Code}
use Rattle.sut_classes.specs.Kept.{IsClasses}
use Rattle.sut_classes.specs.Places.{code_at}
use Rattle.sut_classes.specs.declared.ids.Axis.{Axis}
use Rattle.sut_classes.specs.declared.ids.Axis.TheVariants as axis
use Rattle.sut_classes.specs.declared.ids.Column.{Column}
use Rattle.sut_classes.specs.declared.ids.Column.TheVariants as column
use Rattle.sut_classes.proofs.PlainLines.{plain-code}
use Rattle.sut_measures.specs.Names.{cell_name, code, column_code, measure_name, name_list, total_name}
use Rattle.sut_measures.specs.declared.measures.Cell.{Cell}
use Rattle.sut_measures.specs.declared.measures.Cell.TheVariants as cell
use Rattle.sut_measures.specs.declared.measures.Total.{Total}
use Rattle.sut_measures.specs.declared.measures.Total.TheVariants as total
use Rattle.sut_measures.specs.declared.measures.Measure.{Measure}
use Rattle.sut_measures.specs.declared.measures.Measure.TheVariants as measure
use Rattle.sut_tables.specs.ProblemFacts.{ProblemFacts}
use Rattle.sut_tables.specs.ProblemRules.{IsKept}
use Rattle.sut_tables.specs.Problems.{IsTableOf}
use Rattle.sut_tables.specs.RowFacts.{RowFacts}
use Rattle.sut_tables.specs.Rows.{InRange, IsAim, IsRow}
use Rattle.sut_tables.specs.TableFacts.{TableFacts}
use Rattle.sut_tables.specs.Values.{value_of}
use Rattle.sut_tables.specs.declared.rows.Penalty.{Penalty}
use Rattle.sut_tables.specs.declared.tables.Held.{Held}
use Rattle.sut_readback.proofs.Bounds.{range-small, value-small}
use Rattle.sut_readback.specs.BalancedText.{balanced_header, balanced_line, balanced_lines, target_in}

-- ---- numbers

plain-digit : (d : ℕ) → digit_value d < 10 → ((d == 44) || ((d == 34) || ((d == 13) || (d == 10)))) ≡ false
plain-digit d h =
    let range = digit_from_value d h in
    rw (ne_eqb d 44 (λ e. omega (arith, range)), ne_eqb d 34 (λ e. omega (arith, range)), ne_eqb d 13 (λ e. omega (arith, range)), ne_eqb d 10 (λ e. omega (arith, range))) refl

plain-digits : (ds : List ℕ) → AllDigits 10 ds → needs_quotes ds ≡ false
plain-digits [] h = refl
plain-digits (d ∷ ds) h = rw (plain-digit d h.0, plain-digits ds h.1) refl

pub whole-plain : (z : ℤ) → mag z < 2 ^ 127 → needs_quotes (whole_text z) ≡ false
whole-plain (pos n) small = plain-digits (decimal n) (decimal_is_IsNumeral_wide n (omega arith)).0.1
whole-plain (negsuc n) small = plain-digits (decimal (suc n)) (decimal_is_IsNumeral_wide (suc n) (omega arith)).0.1

-- ---- names

there-plain : (a : Axis) (o : Option Code) → ((text : Code) → o ≡ Some text → is_code_of a text ≡ true) → needs_quotes (unwrap_or o []) ≡ false
there-plain a None lawful = refl
there-plain a (Some text) lawful = plain-code a text (lawful text refl)

module _ (cs : ClassLists) (kept : IsClasses cs) where
  at : (a : Axis) (n : ℕ) → needs_quotes (code cs a n) ≡ false
  at a n = there-plain a (code_at cs a n) (kept.lawful a n)

  of_column : (q : Column) → needs_quotes (column_code cs q) ≡ false
  of_column (column.Industry j) = at axis.Industry j.0
  of_column (column.Final f) = at axis.Final f.0

  cell-plain : (c : Cell) → ArePlain (name_list (cell_name cs c))
  cell-plain (cell.Make i j) = (refl, (at axis.Product i.0, (at axis.Industry j.0, (refl, tt))))
  cell-plain (cell.Import i) = (refl, (at axis.Product i.0, (refl, (refl, tt))))
  cell-plain (cell.Basic i q) = (refl, (at axis.Product i.0, (of_column q, (refl, tt))))
  cell-plain (cell.Margin k i q) = (refl, (at axis.Margin k.0, (at axis.Product i.0, (of_column q, tt))))
  cell-plain (cell.Tax t i q) = (refl, (at axis.Tax t.0, (at axis.Product i.0, (of_column q, tt))))
  cell-plain (cell.Service i k) = (refl, (at axis.Product i.0, (at axis.Margin k.0, (refl, tt))))
  cell-plain (cell.Added v j) = (refl, (at axis.Item v.0, (at axis.Industry j.0, (refl, tt))))

  total-plain : (u : Total) → ArePlain (name_list (total_name cs u))
  total-plain (total.Purchase i q) = (refl, (at axis.Product i.0, (of_column q, (refl, tt))))
  total-plain (total.Supply i) = (refl, (at axis.Product i.0, (refl, (refl, tt))))
  total-plain (total.Output j) = (refl, (at axis.Industry j.0, (refl, (refl, tt))))
  total-plain (total.Inputs j) = (refl, (at axis.Industry j.0, (refl, (refl, tt))))
  total-plain (total.ValueAdded j) = (refl, (at axis.Industry j.0, (refl, (refl, tt))))
  total-plain (total.ItemTotal v) = (refl, (at axis.Item v.0, (refl, (refl, tt))))
  total-plain (total.FinalTotal f) = (refl, (at axis.Final f.0, (refl, (refl, tt))))
  total-plain total.ImportTotal = (refl, (refl, (refl, (refl, tt))))
  total-plain (total.MarginTotal k) = (refl, (at axis.Margin k.0, (refl, (refl, tt))))
  total-plain (total.MarginProduct k i) = (refl, (at axis.Margin k.0, (at axis.Product i.0, (refl, tt))))
  total-plain (total.TaxTotal t) = (refl, (at axis.Tax t.0, (refl, (refl, tt))))
  total-plain (total.TaxProduct t i) = (refl, (at axis.Tax t.0, (at axis.Product i.0, (refl, tt))))
  total-plain total.Gdp = (refl, (refl, (refl, (refl, tt))))
  total-plain (total.MakeGroup g j) = (refl, (at axis.ProductGroup g.0, (at axis.Industry j.0, (refl, tt))))
  total-plain (total.ImportGroup g) = (refl, (at axis.ProductGroup g.0, (refl, (refl, tt))))
  total-plain (total.PurchaseGroup g q) = (refl, (at axis.ProductGroup g.0, (of_column q, (refl, tt))))
  total-plain (total.MarginGroup k g) = (refl, (at axis.Margin k.0, (at axis.ProductGroup g.0, (refl, tt))))
  total-plain (total.TaxGroup t g) = (refl, (at axis.Tax t.0, (at axis.ProductGroup g.0, (refl, tt))))
  total-plain (total.ItemGroup v h) = (refl, (at axis.Item v.0, (at axis.IndustryGroup h.0, (refl, tt))))

  pub name-plain : (m : Measure) → ArePlain (name_list (measure_name cs m))
  name-plain (measure.Cell c) = cell-plain c
  name-plain (measure.Total u) = total-plain u

-- ---- targets

target-plain : (o : Option ℤ) (penalty : Penalty) (grade weight : ℕ) → IsAim o penalty grade weight → needs_quotes (optional_text o) ≡ false
target-plain None penalty grade weight aim = refl
target-plain (Some x) penalty grade weight aim = whole-plain x (range-small x aim.0)

found-plain : (q : RowFacts → Bool) (rows : List RowFacts) → All IsRow rows → needs_quotes (optional_text (target_in (find q rows))) ≡ false
found-plain q [] rows = refl
found-plain q (r ∷ rows) all =
    by (q r) (target-plain r.target r.penalty r.grade r.weight (All-head IsRow r rows all).aim) (found-plain q rows (All-tail IsRow r rows all))
  where
    by : (b : Bool) → needs_quotes (optional_text r.target) ≡ false → needs_quotes (optional_text (target_in (find q rows))) ≡ false → needs_quotes (optional_text (target_in (cond b (Some r) (find q rows)))) ≡ false
    by true here later = here
    by false here later = later

-- ---- lines

pub header-plain : IsPlainRow balanced_header
header-plain = record { wide = omega arith; plain = (refl, (refl, (refl, (refl, (refl, (refl, tt)))))) }

module _ (p : ProblemFacts) (t : TableFacts) (classes : IsClasses p.classes) (kept : IsKept p) (of : IsTableOf p t) (ranges : All (λ (h : Held). InRange h.number) t.cells) where
  line-plain : (m : Measure) → IsPlainRow (balanced_line p t m)
  line-plain m =
      let name = name-plain p.classes classes m in
      record {
        wide = omega arith;
        plain = (name.0, (name.1.0, (name.1.1.0, (name.1.1.1.0, (found-plain _ p.rows kept.problem.in_range, (whole-plain (value_of t m) (value-small p t kept of ranges m), tt))))));
      }

  all-plain : (ms : List Measure) → ArePlainRows (map (balanced_line p t) ms)
  all-plain [] = tt
  all-plain (m ∷ ms) = (line-plain m, all-plain ms)

  pub lines-plain : ArePlainRows (balanced_lines p t)
  lines-plain = all-plain _

pub no-mark : (lines : List Fields) → strip_bom (file_text balanced_header lines) ≡ file_text balanced_header lines
unfolding strip_bom
no-mark lines = refl
