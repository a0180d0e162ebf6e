-- What has happened in a run of edits, with the answers.
use Rattle.std.specs.Prelude.{◌≡◌, ◌↔◌, ℕ, List, [], ◌∷◌, ◌++◌, ◌+◌, Option, All, IsTrue, map}
use Rattle.sut_tables.specs.ProblemFacts.{ProblemFacts}
use Rattle.sut_tables.specs.Costs.{IsImpossible}
use Rattle.sut_edits.specs.declared.edits.Edit.{Edit}
use Rattle.sut_cert.specs.Right.{IsRight, is_infeasible}
use Rattle.sut_cert.specs.declared.answers.Answer.{Answer}
use Rattle.sut_editing.specs.Moments.{Moment, dismissal, rebalance}

-- the rows were balanced, with this answer; or a reviewer was dismissed
pub data Event : Type 0 where
  answered : Option ℕ → List Edit → ProblemFacts → Answer → Event
  dismissed_one : List ℕ → Event

abbrev pub moment_in : Event → Moment
moment_in (answered place since p a) = rebalance place since p
moment_in (dismissed_one label) = dismissal label

-- right for the problem, and infeasible exactly where no table is admissible
pub record IsAnswer (p : ProblemFacts) (a : Answer) : Type 0 where
  pub right : IsRight p a
  pub infeasible : IsTrue (is_infeasible a) ↔ IsImpossible p

abbrev pub HasRightAnswer : Event → Type 0
HasRightAnswer (answered place since p a) = IsAnswer p a
HasRightAnswer (dismissed_one label) = Unit {0}

-- how often the rows were balanced
abbrev pub rebalances_in : List Event → ℕ
rebalances_in [] = 0
rebalances_in (answered place since p a ∷ events) = 1 + rebalances_in events
rebalances_in (dismissed_one label ∷ events) = rebalances_in events
