-- The list of files to write, as names and texts.
use Rattle.std.specs.Prelude.{ℕ, List, [], ◌∷◌, map, Option, None, Some}
use Rattle.std.specs.declared.vec.Vec.{Vec}
use Rattle.sut_outside.specs.declared.names.FileName.{FileName}
use Rattle.sut_outside.specs.declared.names.FileName.TheVariants.{ReviewCsv}
use Rattle.sut_run.specs.declared.writing.Output.{Output}

-- its name and its text
abbrev pub named_text : Output → FileName × List ℕ
named_text output = (output.name, output.text.items)

-- the names and texts of a list of outputs, in order
abbrev pub texts_in : List Output → List (FileName × List ℕ)
texts_in outputs = map named_text outputs

-- the review, if there is one
abbrev pub review_in : {A : Type 0} → Option (Vec ℕ A) → List (FileName × List ℕ)
review_in None = []
review_in (Some text) = (ReviewCsv, text.items) ∷ []
