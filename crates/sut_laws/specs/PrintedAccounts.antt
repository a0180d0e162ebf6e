-- GDP of `accounts.csv` is what stands above it. SNA 2008, 2.138 to 2.140: output less intermediate consumption plus taxes less
-- subsidies on products; incomes plus these taxes; final uses less imports. Subsidies are taxes below 0.
use Rattle.std.specs.Prelude.{◌≡◌, ℕ, Bool, ◌||◌, if◌then◌else◌, ℤ, pos, neg_ℤ, ◌+ℤ◌, ◌-ℤ◌, List, [], ◌∷◌, ◌++◌, All, filter, bytes_eq, codes, Result, Ok, Err, IsOk}
use Rattle.sut_text.specs.Number.{whole_of}
use Rattle.sut_text.specs.declared.numbers.NumberFault.{NumberFault}
use Rattle.sut_records.specs.RecordList.{Fields, field, records_of}
use Rattle.sut_classes.specs.Kept.{IsClasses}
use Rattle.sut_measures.specs.declared.measures.Total.TheVariants as total
use Rattle.sut_tables.specs.Gdp.{expenditure, income, production}
use Rattle.sut_tables.specs.ProblemFacts.{ProblemFacts}
use Rattle.sut_tables.specs.ProblemRules.{IsKept}
use Rattle.sut_tables.specs.Problems.{IsProblem, IsTableOf}
use Rattle.sut_tables.specs.Rows.{InRange}
use Rattle.sut_tables.specs.TableFacts.{TableFacts}
use Rattle.sut_tables.specs.Values.{int_sum_by}
use Rattle.sut_tables.specs.declared.tables.Held.{Held}
use Rattle.sut_write.specs.Accounts.{account_lines, accounts_text}
use Rattle.sut_write.specs.Numbers.{all_inputs, all_outputs, all_taxes, total_of}
use Rattle.sut_write.specs.Places.{finals, items}

-- ---- by the numbers that are printed

-- Over every table of a problem, admissible or not: production is all outputs less all inputs plus all taxes; income is all
-- items of value added plus all taxes; expenditure is all final uses less imports.
abbrev pub GdpIsSummed : Type 0
GdpIsSummed =
    (p : ProblemFacts) (t : TableFacts) → IsProblem p → IsTableOf p t
    → (production t ≡ all_outputs p.classes t -ℤ all_inputs p.classes t +ℤ all_taxes p.classes t)
    × (income t ≡ int_sum_by (λ v. total_of t (total.ItemTotal v)) (items p.classes) +ℤ all_taxes p.classes t)
    × (expenditure t ≡ int_sum_by (λ f. total_of t (total.FinalTotal f)) (finals p.classes) -ℤ total_of t total.ImportTotal)

-- ---- by the printed lines

-- a line has its account, its entry's name, and a number
abbrev pub is_of : List ℕ → Fields → Bool
is_of account line = bytes_eq (field line 0) account

abbrev pub or_zero : Result ℤ NumberFault → ℤ
or_zero (Ok z) = z
or_zero (Err e) = pos 0

-- the number that a line's third field spells
abbrev pub number_of : Fields → ℤ
number_of line = or_zero (whole_of (field line 2))

-- intermediate consumption and imports are subtracted
abbrev pub is_subtracted : List ℕ → Bool
is_subtracted name = bytes_eq name (codes "intermediate") || bytes_eq name (codes "imports")

abbrev pub signed_number : Fields → ℤ
signed_number line = if is_subtracted (field line 1) then neg_ℤ (number_of line) else number_of line

-- the lines of an account are some, and then one named `gdp`, whose number is the sum of those above it
pub record AddsUp (account : List ℕ) (lines : List Fields) : Type 0 where
  pub above : List Fields
  pub last : Fields
  pub all : filter (is_of account) lines ≡ above ++ last ∷ []
  pub name : field last 1 ≡ codes "gdp"
  pub number : number_of last ≡ int_sum_by signed_number above

-- The file `accounts.csv` reads back as its header and its lines, and the third field of each line spells a number. Every
-- `Classes`, every `Problem` and every `Table` is as the premises ask (`Classes::kept`, `Problem::kept`, `Table::cells`).
abbrev pub AccountsReadBack : Type 0
AccountsReadBack =
    (p : ProblemFacts) (t : TableFacts) → IsClasses p.classes → IsKept p → IsTableOf p t → All (λ (h : Held). InRange h.number) t.cells
    → (records_of (accounts_text p.classes t) ≡ (codes "account" ∷ codes "entry" ∷ codes "value" ∷ []) ∷ account_lines p.classes t)
    × All (λ line. IsOk (whole_of (field line 2))) (account_lines p.classes t)

-- In these lines, over every table of a problem, admissible or not, each of the three accounts adds up to its line `gdp`.
abbrev pub PrintedAccountsAddUp : Type 0
PrintedAccountsAddUp =
    (p : ProblemFacts) (t : TableFacts) → IsKept p → IsTableOf p t → All (λ (h : Held). InRange h.number) t.cells
    → AddsUp (codes "production") (account_lines p.classes t)
    × AddsUp (codes "income") (account_lines p.classes t)
    × AddsUp (codes "expenditure") (account_lines p.classes t)
