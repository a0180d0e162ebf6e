-- The rows that the generator's code passes about, and what drawing them does.
use Rattle.std.specs.Prelude.{◌≡◌, ◌++◌, ℕ, List, [], ◌∷◌, map}
use Rattle.std.specs.List.{flat_map}
use Rattle.sut_text.specs.Text.{line_text}
use Rattle.sut_text.specs.Fields.{field_bytes}
use Rattle.sut_generate.specs.Generator.{Drawn, next_state, drawn_lines, one_to}
use Rattle.sut_generate.specs.declared.rows.Row.{Row}

-- the row whose target is to be drawn
abbrev pub drawn_of : Row → Drawn
drawn_of r = record { kind = r.kind.now; a = field_bytes r.a; b = field_bytes r.b; c = field_bytes r.c; base = r.base; span = r.span }

-- the lines of rows, one draw each, from a state on
unfoldable pub drawn_text : ℕ → List Drawn → List ℕ
drawn_text s rs = flat_map line_text (drawn_lines s rs)

-- the state after the draws of rows
abbrev pub state_after : ℕ → List Drawn → ℕ
state_after s [] = s
state_after s (r ∷ rs) = state_after (next_state s) rs

-- what drawing rows does: their lines stand at the end, and the state is the one after their draws
pub record Draws (out : List ℕ) (state : ℕ) (rows : List Drawn) (out' : List ℕ) (state' : ℕ) : Type 0 where
  pub lines : out' ≡ out ++ drawn_text state rows
  pub state_is : state' ≡ state_after state rows

-- the lines of the numbers from 1 to n
unfoldable pub numbered_text : (ℕ → List (List ℕ)) → ℕ → List ℕ
numbered_text line n = flat_map line_text (map line (one_to n))
