-- What classes keep, as the names of measures want it.
use Rattle.std.proofs.Common.{◌≡◌, ◌≢◌, ◌<◌, ◌∙◌, ℕ, Bool, true, false, Option, Some, length, get_or, refl, sym, ap, arith}
use Rattle.std.specs.Prelude.{IsTrue, ◌==◌, ◌||◌}
use Rattle.std.specs.Str.{bytes_eq}
use Rattle.std.proofs.lemmas.Bool.{eqb-true, false_from_ne_true}
use Rattle.std.proofs.lemmas.Map.Keys.{IsDistinct-from_apart}
use Rattle.std.proofs.lemmas.Option.{slice_get-get_or}
use Rattle.std.proofs.lemmas.Slice.Eq.{bytes_eq-Decides}
use Rattle.sut_classes.specs.ClassLists.{ClassLists, Code}
use Rattle.sut_classes.specs.Kept.{IsClasses}
use Rattle.sut_classes.specs.Places.{codes_of, place_of}
use Rattle.sut_classes.specs.declared.ids.Axis.{Axis}
use Rattle.sut_measures.specs.DistinctCodes.{HasDistinctCodes}

same-place : (o : Option ℕ) (i j : ℕ) → o ≡ Some i → o ≡ Some j → i ≡ j
same-place o i j e f = cc

codes-apart : (cs : ClassLists) → IsClasses cs → (a : Axis) (i j : ℕ) (d : Code) → i < j → j < length (codes_of cs a) → bytes_eq (get_or (codes_of cs a) i d) (get_or (codes_of cs a) j d) ≡ false
codes-apart cs kept a i j d less below =
    let x = get_or (codes_of cs a) i d in
    let y = get_or (codes_of cs a) j d in
    let first : place_of cs a x ≡ Some i = kept.distinct a i x (slice_get-get_or (codes_of cs a) i d (omega arith)) in
    let second : place_of cs a y ≡ Some j = kept.distinct a j y (slice_get-get_or (codes_of cs a) j d below) in
    false_from_ne_true (bytes_eq x y)
    (λ same. let at : i ≡ j = same-place (place_of cs a y) i j (ap (place_of cs a) (sym ((bytes_eq-Decides x y).0 same)) ∙ first) second in omega arith)

one-of-two : (n : ℕ) → IsTrue ((n == 1) || (n == 2)) → n ≢ 2 → n ≡ 1
one-of-two n known other = by (n == 1) refl (n == 2) refl known
  where
    by : (b : Bool) → (n == 1) ≡ b → (c : Bool) → (n == 2) ≡ c → (b || c) ≡ true → n ≡ 1
    by true e c f h = eqb-true n 1 e
    by false e true f h = absurd (other (eqb-true n 2 f))
    by false e false f h = cc

pub distinct-codes : (cs : ClassLists) → IsClasses cs → HasDistinctCodes cs
distinct-codes cs kept = record {
  distinct = λ a. IsDistinct-from_apart bytes_eq (codes_of cs a) (codes-apart cs kept a);
  apart = λ k d l. kept.apart k (get_or cs.finals k d) (slice_get-get_or cs.finals k d l);
  groups = λ other. kept.ungrouped (one-of-two cs.format kept.format other);
}
