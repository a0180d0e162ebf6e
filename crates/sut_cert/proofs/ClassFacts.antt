-- What classes keep, as the reading of names and the live accounts need it.
use Rattle.std.proofs.Common.{◌≡◌, ◌≢◌, ℕ, ◌<◌, ◌==◌, ◌||◌, List, [], Bool, true, false, Some, length, get_or, sym, ◌∙◌, ap, arith, inl, inr}
use Rattle.std.specs.Prelude.{IsTrue}
use Rattle.std.specs.Str.{bytes_eq}
use Rattle.std.proofs.lemmas.Bool.{cases_Bool, eqb-true}
use Rattle.std.proofs.lemmas.Map.Keys.{IsDistinct-from_apart}
use Rattle.std.proofs.lemmas.Slice.Eq.{bytes_eq-Decides}
use Rattle.std.proofs.lemmas.Option.{slice_get-get_or}
use Rattle.sut_classes.specs.ClassLists.{ClassLists}
use Rattle.sut_classes.specs.Kept.{IsClasses}
use Rattle.sut_classes.specs.Places.{codes_of, place_of}
use Rattle.sut_classes.specs.declared.ids.Axis.{Axis}
use Rattle.sut_measures.specs.DistinctCodes.{HasDistinctCodes}
use Rattle.sut_tables.specs.GroupsThere.{GroupsAreThere}

codes-apart : (cs : ClassLists) → IsClasses cs → (a : Axis) (i j : ℕ) (d : List ℕ) → i < j → j < length (codes_of cs a)
    → bytes_eq (get_or (codes_of cs a) i d) (get_or (codes_of cs a) j d) ≡ false
codes-apart cs kept a i j d below within = elim (cases_Bool (bytes_eq (get_or (codes_of cs a) i d) (get_or (codes_of cs a) j d))) [
  | inl same ↦
      let one : place_of cs a (get_or (codes_of cs a) i d) ≡ Some i = kept.distinct a i (get_or (codes_of cs a) i d) (slice_get-get_or (codes_of cs a) i d (omega arith)) in
      let other : place_of cs a (get_or (codes_of cs a) j d) ≡ Some j = kept.distinct a j (get_or (codes_of cs a) j d) (slice_get-get_or (codes_of cs a) j d within) in
      absurd (differ (sym one ∙ ap (place_of cs a) ((bytes_eq-Decides (get_or (codes_of cs a) i d) (get_or (codes_of cs a) j d)).0 same) ∙ other))
  | inr other ↦ other
]
  where
    differ : Some i ≡ Some j → ⊥
    differ e = let same : i ≡ j = cc in omega arith

groups-of-two : (cs : ClassLists) → IsClasses cs → cs.format ≢ 2 → (cs.product_groups ≡ []) × (cs.industry_groups ≡ [])
groups-of-two cs kept other = elim (cases_Bool (cs.format == 1)) [
  | inl one ↦ kept.ungrouped (eqb-true cs.format 1 one)
  | inr isnt ↦ absurd (other (eqb-true cs.format 2 (second (cs.format == 1) (cs.format == 2) isnt kept.format)))
]
  where
    second : (a b : Bool) → a ≡ false → IsTrue (a || b) → b ≡ true
    second true b isnt h = absurd cc
    second false b isnt h = h

pub distinct-codes : (cs : ClassLists) → IsClasses cs → HasDistinctCodes cs
distinct-codes cs kept = record {
  distinct = λ a. IsDistinct-from_apart bytes_eq (codes_of cs a) (codes-apart cs kept a);
  apart = λ k d h. kept.apart k (get_or cs.finals k d) (slice_get-get_or cs.finals k d h);
  groups = groups-of-two cs kept;
}

pub groups-there : (cs : ClassLists) → IsClasses cs → GroupsAreThere cs
groups-there cs kept = record { products = kept.products; industries = kept.industries }
