-- Which answers may stand in a session.
use Rattle.std.specs.Prelude.{◌≡◌, ◌↔◌, IsTrue, Option, None, Some}
use Rattle.sut_tables.specs.ProblemFacts.{ProblemFacts}
use Rattle.sut_tables.specs.Problems.{live_accounts}
use Rattle.sut_tables.specs.Costs.{IsImpossible}
use Rattle.sut_cert.specs.Right.{IsRight, is_infeasible}
use Rattle.sut_cert.specs.declared.answers.Answer.{Answer}
use Rattle.sut_cert.specs.declared.answers.Answer.TheVariants as answer
use Rattle.sut_circuit.specs.Circuit.{by_account, flows_of}
use Rattle.sut_session.specs.SessionFacts.{KeptNumbers}

-- the values and the potentials of a balanced answer are those that are kept
abbrev pub IsKeptAs : ProblemFacts → Option KeptNumbers → Answer → Type 0
IsKeptAs p (Some k) (answer.Balanced t ps) = (flows_of p t ≡ k.numbers) × (ps ≡ by_account (live_accounts p) k.potentials)
IsKeptAs p None (answer.Balanced t ps) = ⊥
IsKeptAs p kept (answer.Infeasible s) = Unit {0}

-- right for the problem, infeasible exactly where no table is admissible, and kept
pub record IsAnswerTo (p : ProblemFacts) (kept : Option KeptNumbers) (a : Answer) : Type 0 where
  pub right : IsRight p a
  pub infeasible : IsTrue (is_infeasible a) ↔ IsImpossible p
  pub kept_as : IsKeptAs p kept a
