-- An edit that moves one target a little, and how far a balanced table may go after it.
use Rattle.std.specs.Prelude.{◌≡◌, ℕ, ◌*◌, ◌≤◌, ℤ, ◌-ℤ◌, unsigned_abs, All, Some, if◌then◌else◌}
use Rattle.sut_measures.specs.Keys.{measure_key}
use Rattle.sut_measures.specs.declared.measures.Measure.{Measure}
use Rattle.sut_tables.specs.InOrder.{same_key}
use Rattle.sut_tables.specs.RowFacts.{RowFacts}
use Rattle.sut_tables.specs.ProblemFacts.{ProblemFacts}
use Rattle.sut_tables.specs.TableFacts.{TableFacts}
use Rattle.sut_tables.specs.Changes.{row_replaced}
use Rattle.sut_tables.specs.Problems.{row_at, live_accounts, live_measures}
use Rattle.sut_tables.specs.Values.{value_of}
use Rattle.sut_cert.specs.Certificates.{ShowsLeast}
use Rattle.sut_cert.specs.declared.answers.Answer.{Answer}
use Rattle.sut_cert.specs.declared.answers.Answer.TheVariants as answer
use Rattle.sut_circuit.specs.Circuit.{by_account, flows_of}
use Rattle.sut_edits.specs.declared.edits.Edit.{Edit}
use Rattle.sut_edits.specs.declared.edits.Edit.TheVariants as edit
use Rattle.sut_session.specs.SessionFacts.{KeptNumbers, SessionFacts}

-- the row has the bounds of its measure's row
pub record HasBounds (p : ProblemFacts) (r : RowFacts) : Type 0 where
  pub old : RowFacts
  pub was : row_at p r.measure ≡ Some old
  pub lower : r.lower ≡ old.lower
  pub upper : r.upper ≡ old.upper

-- a set that keeps the bounds
abbrev pub KeepsBounds : ProblemFacts → Edit → Type 0
KeepsBounds p (edit.Set r) = HasBounds p r
KeepsBounds p (edit.Add r) = ⊥
KeepsBounds p (edit.Drop m) = ⊥
KeepsBounds p edit.Balance = ⊥
KeepsBounds p (edit.Dismiss label) = ⊥

-- the problem before, with one target moved by d, at most 4,096, and nothing else of the row
pub record IsSmallSet (before after : ProblemFacts) (r : RowFacts) (d : ℕ) : Type 0 where
  pub old : RowFacts
  pub from : ℤ
  pub to : ℤ
  pub was : row_at before r.measure ≡ Some old
  pub target : old.target ≡ Some from
  pub moved : r ≡ record old { target = Some to }
  pub by : d ≡ unsigned_abs (to -ℤ from)
  pub few : d ≤ 4096
  pub rows : after ≡ row_replaced before r

-- the kept numbers are the table's values, and the kept potentials show it
pub record ShowKept (p : ProblemFacts) (t : TableFacts) (k : KeptNumbers) : Type 0 where
  pub numbers : flows_of p t ≡ k.numbers
  pub shown : ShowsLeast p t (by_account (live_accounts p) k.potentials)

-- what holds after each small set of a problem whose table the session's numbers and potentials still show
abbrev pub AfterSmallSet : SessionFacts → (TableFacts → Measure → ℕ → Type 0) → Type 0
AfterSmallSet s Holds =
    (k : KeptNumbers) → s.kept ≡ Some k →
    (before : ProblemFacts) (t : TableFacts) → ShowKept before t k →
    (r : RowFacts) (d : ℕ) → IsSmallSet before s.problem r d → Holds t r.measure d

-- each live measure's value is within d of what it was, and that of the edited measure within 2d
abbrev pub IsNear : ProblemFacts → TableFacts → TableFacts → Measure → ℕ → Type 0
IsNear p new old edited d =
    All (λ m. unsigned_abs (value_of new m -ℤ value_of old m) ≤ (if same_key (measure_key m) (measure_key edited) then 2 * d else d)) (live_measures p)

-- balanced, with a table near the old one
abbrev pub StaysNear : ProblemFacts → TableFacts → Measure → ℕ → Answer → Type 0
StaysNear p old edited d (answer.Balanced t ps) = IsNear p t old edited d
StaysNear p old edited d (answer.Infeasible s) = ⊥
