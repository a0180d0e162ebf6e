-- GDP by production, by income and by expenditure: three sums over any table.
use Rattle.std.specs.Prelude.{Bool, true, false, ℤ, ◌+ℤ◌, ◌-ℤ◌}
use Rattle.sut_measures.specs.Sums.{is_bought, is_any_final}
use Rattle.sut_tables.specs.TableFacts.{TableFacts}
use Rattle.sut_tables.specs.Values.{sum_where}
use Rattle.sut_classes.specs.declared.ids.Column.{Column}
use Rattle.sut_classes.specs.declared.ids.Column.TheVariants as column
use Rattle.sut_measures.specs.declared.measures.Cell.{Cell}
use Rattle.sut_measures.specs.declared.measures.Cell.TheVariants as cell

abbrev pub is_any_industry : Column → Bool
is_any_industry (column.Industry j) = true
is_any_industry (column.Final f) = false

abbrev pub is_make : Cell → Bool
is_make (cell.Make i j) = true
is_make _ = false

abbrev pub is_import : Cell → Bool
is_import (cell.Import i) = true
is_import _ = false

abbrev pub is_tax : Cell → Bool
is_tax (cell.Tax t i q) = true
is_tax _ = false

abbrev pub is_added : Cell → Bool
is_added (cell.Added v j) = true
is_added _ = false

-- all outputs less all inputs plus all taxes on products, subsidies among them
abbrev pub production : TableFacts → ℤ
production t =
    sum_where is_make t.cells -ℤ sum_where (is_bought (λ i. true) is_any_industry) t.cells +ℤ sum_where is_tax t.cells

-- all added items plus all taxes on products
abbrev pub income : TableFacts → ℤ
income t = sum_where is_added t.cells +ℤ sum_where is_tax t.cells

-- all purchases by final uses less all imports
abbrev pub expenditure : TableFacts → ℤ
expenditure t = sum_where (is_bought (λ i. true) is_any_final) t.cells -ℤ sum_where is_import t.cells
