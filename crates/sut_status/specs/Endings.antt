-- The words of endings that more than one program has, each behind a space.
use Rattle.std.specs.Prelude.{ℕ, List, [], ◌∷◌, codes}
use Rattle.sut_text.specs.Text.{spaced}
use Rattle.sut_outside.specs.declared.names.FileName.{FileName}
use Rattle.sut_outside.specs.Names.{name_text}

abbrev pub memory_text : List ℕ
memory_text = spaced (codes "out" ∷ codes "of" ∷ codes "memory" ∷ [])

-- a file that can't be read, one that is not there and one that is too long
abbrev pub unread_text : FileName → List ℕ
unread_text name = spaced (codes "cannot" ∷ codes "read" ∷ name_text name ∷ [])

abbrev pub missing_text : FileName → List ℕ
missing_text name = spaced (codes "missing" ∷ name_text name ∷ [])

abbrev pub too_long_text : FileName → List ℕ
too_long_text name = spaced (codes "too" ∷ codes "long" ∷ name_text name ∷ [])

-- lines that can't be printed
abbrev pub unprinted_text : List ℕ
unprinted_text = spaced (codes "cannot" ∷ codes "print" ∷ [])
