-- What the separate check says of the files that a run has left. Both sides are the clauses of the two programs: `Headline` is
-- what a run promises of its files, and a check without a failing device ends as its clauses `complete` and `printed` say.
use Rattle.std.specs.Prelude.{◌≡◌, ◌⊎◌, ℕ, List, Option, None, IfOk}
use Rattle.sut_text.specs.Text.{printed_text}
use Rattle.sut_outside.specs.declared.names.FileName.{FileName}
use Rattle.sut_outside.specs.Files.{Files}
use Rattle.sut_review.specs.Seats.{SeatFacts}
use Rattle.sut_cert.specs.Certificates.{entering, leaving}
use Rattle.sut_run.specs.declared.commands.Command.{Command}
use Rattle.sut_run.specs.Headlines.{Headline, WritesCut, WritesLeast, source_name}
use Rattle.sut_check.specs.Claims.{claim_in}
use Rattle.sut_check.specs.Findings.{least_words, no_table_words, verdict_of}
use Rattle.sut_check.specs.Statuses.{status_for}
use Rattle.sut_check.specs.CheckEnds.{AreLines}
use Rattle.sut_check.specs.declared.statuses.CheckStatus.{CheckStatus}
use Rattle.sut_check.specs.declared.statuses.CheckStatus.TheVariants as status

-- a check of these files without a failing device may end so
abbrev pub MayEnd : FileName → Files → CheckStatus → Type 0
MayEnd source files s =
    IfOk (claim_in source None files) (λ claim. (s ≡ status.NoMemory) ⊎ (s ≡ status_for (verdict_of claim.0 claim.1)))

-- each check of these files without a failing device ends with this status or wants memory, and these are its lines
pub record Accepts (source : FileName) (files : Files) (accepted : CheckStatus) (lines : List (List (List ℕ))) : Type 0 where
  pub ends : (s : CheckStatus) → MayEnd source files s → (s ≡ status.NoMemory) ⊎ (s ≡ accepted)
  pub prints : (text : List ℕ) → AreLines source files text → text ≡ printed_text lines

-- what a balanced run has left is accepted: `least` and the cost of the written table, than which no admissible table costs less
abbrev pub LeastIsAccepted : Type 0
LeastIsAccepted =
    (seats : List SeatFacts) (c : Command) (before after : Option (List ℕ)) (old new : Files)
    (h : Headline seats c (WritesLeast before after) old new) →
    Accepts (source_name c) new status.Least (least_words h.problem h.written.table)

-- what an infeasible run has left is accepted: `no table`, and the sums of the written set
abbrev pub CutIsAccepted : Type 0
CutIsAccepted =
    (seats : List SeatFacts) (c : Command) (before after : Option (List ℕ)) (old new : Files)
    (h : Headline seats c (WritesCut before after) old new) →
    Accepts (source_name c) new status.NoTable (no_table_words (entering h.problem h.written.set) (leaving h.problem h.written.set))
