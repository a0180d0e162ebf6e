-- How far the balanced tables of a run of edits may lie from one another after small sets.
use Rattle.std.specs.Prelude.{◌≡◌, ℕ, List, [], ◌∷◌, Option, Some, None, ⊤}
use Rattle.sut_tables.specs.ProblemFacts.{ProblemFacts}
use Rattle.sut_tables.specs.RowFacts.{RowFacts}
use Rattle.sut_tables.specs.TableFacts.{TableFacts}
use Rattle.sut_edits.specs.declared.edits.Edit.{Edit}
use Rattle.sut_edits.specs.declared.edits.Edit.TheVariants as edit
use Rattle.sut_cert.specs.declared.answers.Answer.{Answer}
use Rattle.sut_cert.specs.declared.answers.Answer.TheVariants as answer
use Rattle.sut_session.specs.SmallSets.{IsNear, IsSmallSet}
use Rattle.sut_editing.specs.Events.{Event, answered, dismissed_one}

-- the problem and the table of an answer, if it is balanced
abbrev pub table_of : ProblemFacts → Answer → Option (ProblemFacts × TableFacts)
table_of p (answer.Balanced t ps) = Some (p, t)
table_of p (answer.Infeasible set) = None

-- a balanced table after another is near it, where the one edit of rows between them is a small set
abbrev pub IsNearLast : Option (ProblemFacts × TableFacts) → List Edit → Option (ProblemFacts × TableFacts) → Type 0
IsNearLast (Some old) since (Some new) =
    (r : RowFacts) (d : ℕ) → since ≡ edit.Set r ∷ [] → IsSmallSet old.0 new.0 r d → IsNear new.0 new.1 old.1 r.measure d
IsNearLast old since new = ⊤

-- each balanced table is near the one of the rebalance before it
abbrev pub StayNear : Option (ProblemFacts × TableFacts) → List Event → Type 0
StayNear last [] = ⊤
StayNear last (answered place since p a ∷ events) = IsNearLast last since (table_of p a) × StayNear (table_of p a) events
StayNear last (dismissed_one label ∷ events) = StayNear last events

-- the table of the last rebalance of some events, if it was balanced
abbrev pub last_table : Option (ProblemFacts × TableFacts) → List Event → Option (ProblemFacts × TableFacts)
last_table last [] = last
last_table last (answered place since p a ∷ events) = last_table (table_of p a) events
last_table last (dismissed_one label ∷ events) = last_table last events
