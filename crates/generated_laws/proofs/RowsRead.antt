-- One row of a made source, read.
use Rattle.std.proofs.Common.{◌≡◌, ◌≤◌, ◌∷◌, ◌∙◌, ℕ, ℤ, pos, List, [], false, Some, None, Ok, refl, sym, ap, subst, arith}
use Rattle.std.specs.Prelude.{codes, decimal, int_lt, neg_ℤ, if◌then◌else◌}
use Rattle.std.specs.Fmt.{digits}
use Rattle.std.proofs.lemmas.Int.{ints}
use Rattle.sut_text.specs.Text.{whole_text}
use Rattle.sut_classes.specs.ClassLists.{ClassLists}
use Rattle.sut_classes.specs.Kept.{IsClasses}
use Rattle.sut_measures.specs.Names.{measure_name}
use Rattle.sut_measures.specs.ReadNames.{measure_of}
use Rattle.sut_measures.specs.declared.faults.Field.TheVariants as column
use Rattle.sut_measures.specs.declared.measures.Measure.{Measure}
use Rattle.sut_measures.proofs.RoundTrip.{measure_of-name}
use Rattle.sut_tables.specs.RowFacts.{RowFacts}
use Rattle.sut_tables.specs.Rows.{InRange, limit}
use Rattle.sut_tables.specs.declared.rows.Penalty.TheVariants.{Square}
use Rattle.sut_tables.proofs.Tests.{lt_is_false}
use Rattle.sut_tables.proofs.Wide.{zero-in_range}
use Rattle.sut_source.specs.RowFile.{bound_in, row_fields, row_in, usual_lower, usual_upper}
use Rattle.sut_source.proofs.ClassFacts.{distinct-codes}
use Rattle.sut_source.proofs.PrintedNumbers.{bound-back, target-back}
use Rattle.sut_source.proofs.RowLemmas.{row-good}
use Rattle.generated_laws.specs.MadeLists.{made_facts}
use Rattle.generated_laws.proofs.MadeNames.{Spells}

-- the row of a measure with a target, and without one
abbrev pub drawn_facts : Measure → ℕ → RowFacts
drawn_facts m k = record { measure = m; target = Some (pos k); penalty = Square; grade = 0; weight = 1; lower = pos 0; upper = limit }

abbrev pub free_facts : Measure → ℤ → RowFacts
free_facts m lower = record { measure = m; target = None; penalty = Square; grade = 0; weight = 0; lower = lower; upper = limit }

limit-in_range : InRange limit
limit-in_range = record { low = omega (arith, ints); high = omega (arith, ints) }

name-read : (cs : ClassLists) → IsClasses cs → (kind a b c : List ℕ) (m : Measure) → Spells cs kind a b c m → measure_of cs kind a b c ≡ Ok m
name-read cs kept kind a b c m s =
    let named = s.name in
    let k : (measure_name cs m).kind ≡ kind = cc in
    let e : (measure_name cs m).a ≡ a = cc in
    let f : (measure_name cs m).b ≡ b = cc in
    let g : (measure_name cs m).c ≡ c = cc in
    sym (λ i. measure_of cs (k i) (e i) (f i) (g i)) ∙ measure_of-name cs (distinct-codes cs kept) m s.fit

not-below : (k : ℕ) → int_lt (pos k) (pos 0) ≡ false
not-below k = lt_is_false (pos k) (pos 0) (omega (arith, ints))

pub drawn-read : (cs : ClassLists) → IsClasses cs → (kind a b c : List ℕ) (m : Measure) → Spells cs kind a b c m → (k : ℕ) → k ≤ 1000000000000
    → row_in made_facts cs (row_fields 0 (kind ∷ a ∷ b ∷ c ∷ decimal k ∷ [] ∷ [] ∷ [] ∷ [])) ≡ Ok (drawn_facts m k)
drawn-read cs kept kind a b c m s k small =
    let f = row_fields 0 (kind ∷ a ∷ b ∷ c ∷ decimal k ∷ [] ∷ [] ∷ [] ∷ []) in
    let range : InRange (pos k) = record { low = omega (arith, ints); high = omega (arith, ints) } in
    let low : bound_in column.Lower (Some (usual_lower (pos k))) [] ≡ Ok (pos 0) = ap (λ b. Ok (if b then neg_ℤ limit else pos 0)) (not-below k) in
    let high : bound_in column.Upper (Some (usual_upper (pos k))) [] ≡ Ok limit = ap (λ b. Ok (if b then pos 0 else limit)) (not-below k) in
    sym (row-good made_facts cs f m (Some (pos k)) (record { place = 0; penalty = Square }) (pos 0) limit (Some (usual_upper (pos k))) 1 (drawn_facts m k)
    (record { name = name-read cs kept kind a b c m s; target = target-back (Some (pos k)) Square 0 1 (range, tt, omega arith, omega arith); grade = refl; low = low })
    refl high refl refl (record { lower = zero-in_range; upper = limit-in_range; ordered = omega (arith, ints); aim = (range, tt, omega arith, omega arith) }))

widest : whole_text limit ≡ codes "1000000000000"
unfolding digits
widest = refl

pub free-read : (cs : ClassLists) → IsClasses cs → (kind a b c : List ℕ) (m : Measure) → Spells cs kind a b c m → (lower : ℤ) (text : List ℕ) → InRange lower → whole_text lower ≡ text
    → row_in made_facts cs (row_fields 0 (kind ∷ a ∷ b ∷ c ∷ [] ∷ [] ∷ text ∷ codes "1000000000000" ∷ [])) ≡ Ok (free_facts m lower)
free-read cs kept kind a b c m s lower text range spelled =
    let f = row_fields 0 (kind ∷ a ∷ b ∷ c ∷ [] ∷ [] ∷ text ∷ codes "1000000000000" ∷ []) in
    let low : bound_in column.Lower None text ≡ Ok lower = subst (λ t. bound_in column.Lower None t ≡ Ok lower) spelled (bound-back column.Lower None lower range) in
    let high : bound_in column.Upper None (codes "1000000000000") ≡ Ok limit = subst (λ t. bound_in column.Upper None t ≡ Ok limit) widest (bound-back column.Upper None limit limit-in_range) in
    sym (row-good made_facts cs f m None (record { place = 0; penalty = Square }) lower limit None 0 (free_facts m lower)
    (record { name = name-read cs kept kind a b c m s; target = refl; grade = refl; low = low })
    refl high refl refl (record { lower = range; upper = limit-in_range; ordered = range.high; aim = (refl, refl, refl) }))

pub least-text : whole_text (neg_ℤ limit) ≡ codes "-1000000000000"
unfolding digits
least-text = refl

pub zero-text : whole_text (pos 0) ≡ codes "0"
unfolding digits
zero-text = refl

pub least-in_range : InRange (neg_ℤ limit)
least-in_range = record { low = omega (arith, ints); high = omega (arith, ints) }
