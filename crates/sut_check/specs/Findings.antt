-- What a check finds of a problem and the answer that is claimed for it, and the lines that it prints.
use Rattle.std.specs.Prelude.{◌≡◌, ℕ, ℤ, List, [], ◌∷◌, ⊤, codes, decimal}
use Rattle.sut_text.specs.Text.{printed_text, whole_text}
use Rattle.sut_measures.specs.declared.accounts.Account.{Account}
use Rattle.sut_tables.specs.ProblemFacts.{ProblemFacts}
use Rattle.sut_tables.specs.TableFacts.{TableFacts}
use Rattle.sut_tables.specs.Problems.{IsTableOf}
use Rattle.sut_tables.specs.Costs.{IsImpossible, IsLeast, cost}
use Rattle.sut_cert.specs.Certificates.{Contradicts, ShowsLeast, entering, leaving}
use Rattle.sut_cert.specs.declared.answers.Answer.{Answer}
use Rattle.sut_cert.specs.declared.answers.Answer.TheVariants as answer
use Rattle.sut_verify.specs.Verdicts.{verdict_on, verdict_on_cut}
use Rattle.sut_verify.specs.declared.verdicts.Verdict.{Verdict}
use Rattle.sut_verify.specs.declared.verdicts.Verdict.TheVariants as verdict

-- the verdict of the verifier: on potentials and their table, or on a set of accounts
unfoldable pub verdict_of : ProblemFacts → Answer → Verdict
verdict_of p (answer.Balanced t ps) = verdict_on p t ps
verdict_of p (answer.Infeasible set) = verdict_on_cut p set

-- the lines of a check that accepts: `least` and the cost of the table, or `no table` and the two sums
abbrev pub least_words : ProblemFacts → TableFacts → List (List (List ℕ))
least_words p t = (codes "least" ∷ []) ∷ (codes "cost" ∷ decimal (cost p t) ∷ []) ∷ []

abbrev pub no_table_words : ℤ → ℤ → List (List (List ℕ))
no_table_words enter leave =
    (codes "no" ∷ codes "table" ∷ []) ∷ (codes "entering" ∷ whole_text enter ∷ []) ∷ (codes "leaving" ∷ whole_text leave ∷ []) ∷ []

unfoldable pub check_text : ProblemFacts → Answer → List ℕ
check_text p (answer.Balanced t ps) = printed_text (least_words p t)
check_text p (answer.Infeasible set) = printed_text (no_table_words (entering p set) (leaving p set))

-- a table that is claimed is one of the problem
abbrev pub IsClaimFor : ProblemFacts → Answer → Type 0
IsClaimFor p (answer.Balanced t ps) = IsTableOf p t
IsClaimFor p (answer.Infeasible set) = ⊤

-- the claimed potentials show the claimed table, and no admissible table costs less
pub record FindsLeast (p : ProblemFacts) (a : Answer) : Type 0 where
  pub table : TableFacts
  pub shown_by : List (Account × ℤ)
  pub claimed : a ≡ answer.Balanced table shown_by
  pub shown : ShowsLeast p table shown_by
  pub least : IsLeast p table
  pub accepted : verdict_of p a ≡ verdict.Least

-- the claimed set contradicts, and no table is admissible
pub record FindsNoTable (p : ProblemFacts) (a : Answer) : Type 0 where
  pub set : List Account
  pub claimed : a ≡ answer.Infeasible set
  pub contradicts : Contradicts p set
  pub impossible : IsImpossible p
  pub accepted : verdict_of p a ≡ verdict.NoTable (entering p set) (leaving p set)
