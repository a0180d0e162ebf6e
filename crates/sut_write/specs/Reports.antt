-- `report.json`: the report of an answer.
use Rattle.std.specs.Prelude.{ℕ, ℤ, List, [], ◌∷◌, ◌++◌, codes, length, decimal}
use Rattle.serde_json.specs.Data.{Data, unsigned, number, string, object, no_members, member}
use Rattle.serde_json.specs.Find.{of_integer}
use Rattle.serde_json.specs.Written.{compact_text}
use Rattle.sut_measures.specs.declared.accounts.Account.{Account}
use Rattle.sut_tables.specs.ProblemFacts.{ProblemFacts}
use Rattle.sut_tables.specs.TableFacts.{TableFacts}
use Rattle.sut_tables.specs.Costs.{cost}
use Rattle.sut_tables.specs.Gdp.{production, income, expenditure}
use Rattle.sut_cert.specs.declared.answers.Answer.{Answer}
use Rattle.sut_cert.specs.declared.answers.Answer.TheVariants as answer
use Rattle.sut_cert.specs.Certificates.{entering, leaving}

-- a whole number as JSON's number
abbrev pub json_whole : ℤ → Data
json_whole z = number (of_integer z)

-- the reports as values, their keys in byte order; the cost is a text, since it may pass 64 bits
abbrev pub balanced_data : List ℕ → ℤ → ℤ → ℤ → ℕ → Data
balanced_data cost_digits by_expenditure by_income by_production rows = object
    (member (codes "answer") (string (codes "balanced"))
    (member (codes "cost") (string cost_digits)
    (member (codes "gdp") (object
    (member (codes "expenditure") (json_whole by_expenditure)
    (member (codes "income") (json_whole by_income)
    (member (codes "production") (json_whole by_production) no_members))))
    (member (codes "rows") (number (unsigned rows)) no_members))))

abbrev pub infeasible_data : ℤ → ℤ → ℕ → Data
infeasible_data in_sum out_sum rows = object
    (member (codes "answer") (string (codes "infeasible"))
    (member (codes "entering") (json_whole in_sum)
    (member (codes "leaving") (json_whole out_sum)
    (member (codes "rows") (number (unsigned rows)) no_members))))

abbrev pub table_data : ProblemFacts → TableFacts → Data
table_data p t = balanced_data (decimal (cost p t)) (expenditure t) (income t) (production t) (length p.rows)

abbrev pub set_data : ProblemFacts → List Account → Data
set_data p s = infeasible_data (entering p s) (leaving p s) (length p.rows)

abbrev pub report_data : ProblemFacts → Answer → Data
report_data p (answer.Balanced t c) = table_data p t
report_data p (answer.Infeasible s) = set_data p s

-- compact JSON and LF
unfoldable pub report_text : ProblemFacts → Answer → List ℕ
report_text p a = compact_text (report_data p a) ++ 10 ∷ []
