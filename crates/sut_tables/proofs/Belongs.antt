-- A table of a problem stays one where a number is put.
use Rattle.std.proofs.Common.{◌≡◌, ℤ, List, [], ◌∷◌, map, Bool, true, false, if◌then◌else◌, refl, ◌∙◌}
use Rattle.sut_measures.specs.Sums.{same_cell}
use Rattle.sut_measures.specs.declared.measures.Cell.{Cell}
use Rattle.sut_tables.specs.declared.tables.Held.{Held}
use Rattle.sut_tables.specs.ProblemFacts.{ProblemFacts}
use Rattle.sut_tables.specs.TableFacts.{TableFacts}
use Rattle.sut_tables.specs.Problems.{IsTableOf}
use Rattle.sut_tables.specs.Tables.{put_number}
use Rattle.sut_tables.proofs.HeldCells.{put_in, with_number}

cells-put : (c : Cell) (x : ℤ) (hs : List Held) → map (λ (h : Held). h.cell) (map (put_in c x) hs) ≡ map (λ (h : Held). h.cell) hs
cells-put c x [] = refl
cells-put c x (h ∷ hs) = rw (cells-put c x hs) (by (same_cell h.cell c))
  where
    by : (b : Bool) → (if b then with_number h x else h).cell ∷ map (λ (h : Held). h.cell) hs ≡ h.cell ∷ map (λ (h : Held). h.cell) hs
    by true = refl
    by false = refl

pub put-belongs : (p : ProblemFacts) (t : TableFacts) (c : Cell) (x : ℤ) → IsTableOf p t → IsTableOf p (put_number t c x)
put-belongs p t c x of = record { cells = cells-put c x t.cells ∙ of.cells; groups = of.groups }
