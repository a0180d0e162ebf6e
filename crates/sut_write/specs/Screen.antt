-- The lines that a run prints, each a list of words.
use Rattle.std.specs.Prelude.{ℕ, List, [], ◌∷◌, ◌++◌, Option, Some, None, codes, decimal, length}
use Rattle.sut_text.specs.Text.{whole_text, printed_text}
use Rattle.sut_measures.specs.declared.accounts.Account.{Account}
use Rattle.sut_tables.specs.ProblemFacts.{ProblemFacts}
use Rattle.sut_tables.specs.TableFacts.{TableFacts}
use Rattle.sut_tables.specs.Costs.{cost}
use Rattle.sut_tables.specs.Gdp.{production, income, expenditure}
use Rattle.sut_cert.specs.declared.answers.Answer.{Answer}
use Rattle.sut_cert.specs.declared.answers.Answer.TheVariants as answer
use Rattle.sut_cert.specs.Certificates.{entering, leaving}

abbrev pub cost_words : ProblemFacts → TableFacts → List (List ℕ)
cost_words p t = codes "cost" ∷ decimal (cost p t) ∷ []

-- the three sums: production, income, expenditure
abbrev pub gdp_words : TableFacts → List (List ℕ)
gdp_words t = codes "gdp" ∷ whole_text (production t) ∷ whole_text (income t) ∷ whole_text (expenditure t) ∷ []

abbrev pub balanced_words : ProblemFacts → TableFacts → List (List (List ℕ))
balanced_words p t = (codes "balanced" ∷ []) ∷ cost_words p t ∷ gdp_words t ∷ []

-- the sums of the bounds that enter the set and that leave it
abbrev pub set_words : ProblemFacts → List Account → List (List (List ℕ))
set_words p s = (codes "entering" ∷ whole_text (entering p s) ∷ []) ∷ (codes "leaving" ∷ whole_text (leaving p s) ∷ []) ∷ []

abbrev pub infeasible_words : ProblemFacts → List Account → List (List (List ℕ))
infeasible_words p s = (codes "infeasible" ∷ []) ∷ set_words p s

-- the three printed lines of an answer
abbrev pub screen_lines : ProblemFacts → Answer → List (List (List ℕ))
screen_lines p (answer.Balanced t c) = balanced_words p t
screen_lines p (answer.Infeasible s) = infeasible_words p s

abbrev pub screen_text : ProblemFacts → Answer → List ℕ
screen_text p a = printed_text (screen_lines p a)

abbrev pub rows_words : ProblemFacts → List (List ℕ)
rows_words p = codes "rows" ∷ decimal (length p.rows) ∷ []

-- the three printed lines of a made year
abbrev pub generated_text : ProblemFacts → TableFacts → List ℕ
generated_text p t = printed_text (rows_words p ∷ (codes "balanced" ∷ []) ∷ cost_words p t ∷ [])

-- ---- the line of a rebalance in a run of edits

-- the line of the edit that asked for it; none where it is the last one
abbrev pub place_words : Option ℕ → List (List ℕ)
place_words (Some line) = codes "line" ∷ decimal line ∷ []
place_words None = codes "end" ∷ []

-- what came of it, with the cost of the table
abbrev pub outcome_words : ProblemFacts → Answer → List (List ℕ)
outcome_words p (answer.Balanced t c) = codes "balanced" ∷ decimal (cost p t) ∷ []
outcome_words p (answer.Infeasible s) = codes "infeasible" ∷ []

abbrev pub rebalance_text : Option ℕ → ProblemFacts → Answer → List ℕ
rebalance_text place p a = printed_text ((place_words place ++ outcome_words p a) ∷ [])
