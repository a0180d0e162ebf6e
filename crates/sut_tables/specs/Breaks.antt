-- The broken identities and bounds of a table, in order: products, industries, margin kinds, then rows, lower before upper.
use Rattle.std.specs.Prelude.{ℕ, length, ℤ, List, [], ◌∷◌, ◌++◌, Option, None, Some, if◌then◌else◌, int_lt}
use Rattle.std.specs.List.{flat_map, range_with_len}
use Rattle.std.specs.Ordering.{int_eq}
use Rattle.sut_tables.specs.RowFacts.{RowFacts}
use Rattle.sut_tables.specs.ProblemFacts.{ProblemFacts}
use Rattle.sut_tables.specs.TableFacts.{TableFacts}
use Rattle.sut_tables.specs.Values.{value_of}
use Rattle.sut_tables.specs.Identities.{made_and_imported, used_and_serving, made_by, inputs_and_added, services_of, margins_of}
use Rattle.sut_tables.specs.declared.tables.Broken.{Broken}
use Rattle.sut_tables.specs.declared.tables.Place.{Place}
use Rattle.sut_tables.specs.declared.tables.Place.TheVariants as place

-- the first element, if there is one
abbrev pub first_of : {X : Type 0} → List X → Option X
first_of [] = None
first_of (x ∷ xs) = Some x

-- an identity is broken where its two sides differ
abbrev pub unequal : Place → ℤ → ℤ → List Broken
unequal at left right =
    if int_eq left right then [] else (record { place = at; left = left; right = right } ∷ [])

-- the first number is below the second: a value below the lower bound, or an upper bound below the value
abbrev pub below : Place → ℤ → ℤ → ℤ → ℤ → List Broken
below at small large value bound =
    if int_lt small large then (record { place = at; left = value; right = bound } ∷ []) else []

abbrev pub broken_product : TableFacts → ℕ → List Broken
broken_product t n =
    unequal (place.Product (record { 0 = n })) (made_and_imported t (record { 0 = n })) (used_and_serving t (record { 0 = n }))

abbrev pub broken_industry : TableFacts → ℕ → List Broken
broken_industry t n =
    unequal (place.Industry (record { 0 = n })) (made_by t (record { 0 = n })) (inputs_and_added t (record { 0 = n }))

abbrev pub broken_margin : TableFacts → ℕ → List Broken
broken_margin t n =
    unequal (place.Margin (record { 0 = n })) (services_of t (record { 0 = n })) (margins_of t (record { 0 = n }))

abbrev pub broken_bounds : TableFacts → RowFacts → List Broken
broken_bounds t r =
    let x = value_of t r.measure in
    below (place.Below r.measure) x r.lower x r.lower ++ below (place.Above r.measure) r.upper x x r.upper

abbrev pub breaks : ProblemFacts → TableFacts → List Broken
breaks p t =
    flat_map (broken_product t) (range_with_len 0 (length p.classes.products))
    ++ flat_map (broken_industry t) (range_with_len 0 (length p.classes.industries))
    ++ flat_map (broken_margin t) (range_with_len 0 (length p.classes.margins))
    ++ flat_map (broken_bounds t) p.rows

-- the first broken identity or bound, or none
abbrev pub first_break : ProblemFacts → TableFacts → Option Broken
first_break p t = first_of (breaks p t)
