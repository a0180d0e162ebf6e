-- The words of a command line.
use Rattle.std.specs.Prelude.{ℕ, List, map, drop, string_bytes, String}
use Rattle.std.specs.Global.{Global}
use Rattle.std.specs.Vec.Iter.{into_iter_items}
use Rattle.std.specs.declared.vec.IntoIter.{IntoIter}

-- the words behind the first argument, which is the program's name
abbrev pub words_in : IntoIter (String Global) Global → List (List ℕ)
words_in args = map string_bytes (drop 1 (into_iter_items args))
