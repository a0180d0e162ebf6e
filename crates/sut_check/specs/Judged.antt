-- What is known of a claim before anything is printed.
use Rattle.std.specs.Prelude.{◌≡◌, ◌⊎◌, ℕ, List, []}
use Rattle.sut_tables.specs.ProblemFacts.{ProblemFacts}
use Rattle.sut_cert.specs.declared.answers.Answer.{Answer}
use Rattle.sut_verify.specs.declared.verdicts.Verdict.TheVariants as verdict
use Rattle.sut_check.specs.declared.statuses.CheckStatus.{CheckStatus}
use Rattle.sut_check.specs.declared.statuses.CheckStatus.TheVariants as status
use Rattle.sut_check.specs.declared.judging.Judged.{Judged}
use Rattle.sut_check.specs.declared.judging.Judged.TheVariants.{Least, NoTable, Refused}
use Rattle.sut_check.specs.Findings.{FindsLeast, FindsNoTable, check_text, verdict_of}

-- an accepted claim with its lines, or the first reason against it
abbrev pub IsJudged : ProblemFacts → Answer → Judged → Type 0
IsJudged p a (Least lines) = FindsLeast p a × (lines.items ≡ check_text p a)
IsJudged p a (NoTable lines) = FindsNoTable p a × (lines.items ≡ check_text p a)
IsJudged p a (Refused reason) = verdict_of p a ≡ verdict.Refused reason

-- how the check of a judged claim may end
abbrev pub EndsAs : Judged → CheckStatus → Type 0
EndsAs (Least lines) s = (s ≡ status.Least) ⊎ (s ≡ status.SinkFault)
EndsAs (NoTable lines) s = (s ≡ status.NoTable) ⊎ (s ≡ status.SinkFault)
EndsAs (Refused reason) s = s ≡ status.Refused reason

-- the lines of a judged claim
abbrev pub lines_in : Judged → List ℕ
lines_in (Least lines) = lines.items
lines_in (NoTable lines) = lines.items
lines_in (Refused reason) = []
