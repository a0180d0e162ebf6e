-- Where a table is broken, in words, each behind a space. Places are counted from 1.
use Rattle.std.specs.Prelude.{ℕ, List, [], ◌∷◌, ◌++◌, codes}
use Rattle.sut_text.specs.Text.{spaced, whole_text}
use Rattle.sut_measures.specs.Words.{measure_words, nth}
use Rattle.sut_tables.specs.declared.tables.Place.{Place}
use Rattle.sut_tables.specs.declared.tables.Place.TheVariants as place
use Rattle.sut_tables.specs.declared.tables.Broken.{Broken}

-- an identity or a bound
abbrev pub place_text : Place → List ℕ
place_text (place.Product i) = spaced (codes "product" ∷ nth i.0 ∷ [])
place_text (place.Industry j) = spaced (codes "industry" ∷ nth j.0 ∷ [])
place_text (place.Margin k) = spaced (codes "margin" ∷ nth k.0 ∷ [])
place_text (place.Below m) = spaced (codes "below" ∷ measure_words m)
place_text (place.Above m) = spaced (codes "above" ∷ measure_words m)

-- where a table is broken, and both numbers
abbrev pub broken_text : Broken → List ℕ
broken_text b = place_text b.place ++ spaced (whole_text b.left ∷ whole_text b.right ∷ [])
