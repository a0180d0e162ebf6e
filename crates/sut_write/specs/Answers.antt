-- Answers whose texts are printed.
use Rattle.sut_tables.specs.ProblemFacts.{ProblemFacts}
use Rattle.sut_tables.specs.Costs.{IsAdmissible}
use Rattle.sut_cert.specs.declared.answers.Answer.{Answer}
use Rattle.sut_cert.specs.declared.answers.Answer.TheVariants as answer

-- a table in the answer is admissible
abbrev pub HasAdmissibleTable : ProblemFacts → Answer → Type 0
HasAdmissibleTable p (answer.Balanced t c) = IsAdmissible p t
HasAdmissibleTable p (answer.Infeasible s) = Unit {0}
