-- What contracts see of a session: its problem, its answer, and the numbers and potentials of its network.
use Rattle.std.specs.Prelude.{ℤ, List, Option}
use Rattle.sut_tables.specs.ProblemFacts.{ProblemFacts}
use Rattle.sut_cert.specs.declared.answers.Answer.{Answer}

-- a number for each live measure, and a potential for each live account, both in order
pub record KeptNumbers : Type 0 where
  pub numbers : List ℤ
  pub potentials : List ℤ

-- nothing is kept where an edit changed which measures are live
pub record SessionFacts : Type 0 where
  pub problem : ProblemFacts
  pub answer : Option Answer
  pub kept : Option KeptNumbers
