-- Printed grades and penalties: they need no quotes, and they are read as what they were.
use Rattle.std.proofs.Common.{◌≡◌, ◌<◌, ◌≤◌, ◌∷◌, ◌++◌, ◌||◌, ◌∙◌, ℕ, ℤ, pos, List, [], Bool, true, false, Option, Some, None, Ok, length, take, drop, ne_eqb, refl, sym, ap, arith}
use Rattle.std.specs.Prelude.{◌==◌, slice_get}
use Rattle.std.specs.List.{list_any, position_or_len}
use Rattle.std.proofs.lemmas.Int.{ints}
use Rattle.std.proofs.lemmas.List.{length-map}
use Rattle.std.proofs.lemmas.Option.{slice_get-get_or, unwrap_or-slice_get}
use lib.Seq.{take-append_seam, drop-append_seam}
use Rattle.sut_text.specs.Number.{whole_of}
use Rattle.sut_text.specs.Text.{needs_quotes, whole_text}
use Rattle.sut_text.proofs.Spelling.{whole-spelled}
use Rattle.sut_tables.specs.Rows.{InRange, IsAim, IsPenalty, limit}
use Rattle.sut_tables.specs.declared.rows.Penalty.{Penalty}
use Rattle.sut_tables.specs.declared.rows.Penalty.TheVariants.{Square, Absolute, Band}
use Rattle.sut_tables.proofs.Tests.{lt_is_false}
use Rattle.sut_settings.specs.IsSettings.{IsSettings}
use Rattle.sut_settings.specs.SettingsFacts.{GradeFacts, SettingsFacts}
use Rattle.sut_settings.proofs.GradeLemmas.{names}
use Rattle.sut_settings.proofs.PlaceLemmas.{no-colon, no-quotes, place-of-name}
use Rattle.sut_source.specs.RowFile.{band_of, before_colon, from_colon, grade_in, is_colon, penalty_in}
use Rattle.sut_source.specs.SourceText.{grade_name, penalty_text}
use Rattle.sut_source.proofs.PrintedNumbers.{range-small, whole-plain}

neither : (a b : Bool) → (a || b) ≡ false → (a ≡ false) × (b ≡ false)
neither true b e = cc
neither false b e = (refl, e)

none-joined : (p : ℕ → Bool) (xs ys : List ℕ) → list_any p xs ≡ false → list_any p ys ≡ false → list_any p (xs ++ ys) ≡ false
none-joined p [] ys e f = f
none-joined p (x ∷ xs) ys e f =
    let h = neither (p x) (list_any p xs) e in
    rw h.0 (none-joined p xs ys h.1 f)

-- the first colon stands behind a text without one
colon-behind : (name rest : List ℕ) → list_any is_colon name ≡ false → position_or_len is_colon rest ≡ 0 → position_or_len is_colon (name ++ rest) ≡ length name
colon-behind [] rest none first = first
colon-behind (b ∷ name) rest none first =
    let h = neither (b == 58) (list_any is_colon name) none in
    rw (h.0, colon-behind name rest h.1 first) (omega arith)

-- ---- penalties

width-range : (width : ℤ) → IsPenalty (Band width) → InRange width
width-range width p = record { low = omega (arith, ints, p.0); high = p.1 }

penalty-first : (p : Penalty) → position_or_len is_colon (penalty_text p) ≡ 0
penalty-first Square = refl
penalty-first Absolute = refl
penalty-first (Band width) = refl

band-back : (width : ℤ) → IsPenalty (Band width) → band_of (whole_of (whole_text width)) ≡ Some (Band width)
band-back width p =
    ap band_of (whole-spelled width (range-small width (width-range width p)))
    ∙ rw (lt_is_false width (pos 0) p.0, lt_is_false limit width p.1) refl

penalty-back : (p : Penalty) → IsPenalty p → penalty_in (penalty_text p) ≡ Ok p
penalty-back Square good = refl
penalty-back Absolute good = refl
penalty-back (Band width) good =
    let filled : (length (penalty_text (Band width)) == 0) ≡ false = ne_eqb (length (penalty_text (Band width))) 0 (λ e. omega arith) in
    rw (filled, band-back width good) refl

penalty-plain : (p : Penalty) → IsPenalty p → needs_quotes (penalty_text p) ≡ false
penalty-plain Square good = refl
penalty-plain Absolute good = refl
penalty-plain (Band width) good = whole-plain width (range-small width (width-range width good))

-- ---- grades

module _ (s : SettingsFacts) (kept : IsSettings s) where
  name-at : (n : ℕ) → n ≤ length s.grades → slice_get ([] ∷ names s.grades) n ≡ Some (grade_name s n)
  name-at n within =
      let inside : n < length ([] ∷ names s.grades) = omega (arith, length-map s.grades (λ (g : GradeFacts). g.name)) in
      slice_get-get_or ([] ∷ names s.grades) n [] inside ∙ ap Some (sym (unwrap_or-slice_get ([] ∷ names s.grades) n []))

  -- the grade and the penalty of a row are read back
  pub grade-back : (t : Option ℤ) (p : Penalty) (n w : ℕ) → IsAim t p n w → n ≤ length s.grades → grade_in s t (grade_name s n ++ penalty_text p) ≡ Ok (record { place = n; penalty = p })
  grade-back None p n w aim within = rw (aim.0, aim.1) refl
  grade-back (Some x) p n w aim within =
      let name = grade_name s n in
      let at = name-at n within in
      let colon = colon-behind name (penalty_text p) (no-colon s n name kept at) (penalty-first p) in
      let front : before_colon (name ++ penalty_text p) ≡ name = ap (λ k. take k (name ++ penalty_text p)) colon ∙ take-append_seam name (penalty_text p) in
      let behind : from_colon (name ++ penalty_text p) ≡ penalty_text p = ap (λ k. drop k (name ++ penalty_text p)) colon ∙ drop-append_seam name (penalty_text p) in
      rw (front, behind, place-of-name s n name kept at, penalty-back p aim.1) refl

  pub grade-plain : (t : Option ℤ) (p : Penalty) (n w : ℕ) → IsAim t p n w → n ≤ length s.grades → needs_quotes (grade_name s n ++ penalty_text p) ≡ false
  grade-plain None p n w aim within = rw (aim.0, aim.1) refl
  grade-plain (Some x) p n w aim within =
      none-joined _ (grade_name s n) (penalty_text p) (no-quotes s n (grade_name s n) kept (name-at n within)) (penalty-plain p aim.1)
