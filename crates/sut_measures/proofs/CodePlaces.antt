-- A code's place and a place's code.
use Rattle.std.proofs.Common.{◌≡◌, ◌<◌, ℕ, true, false, List, [], Option, Some, None, length, get_or, refl, sym, ◌∙◌, subst, arith}
use Rattle.std.specs.Prelude.{IsTrue, nat_lt, position}
use Rattle.std.specs.List.{IsDistinct, position_or_len}
use Rattle.std.specs.Str.{bytes_eq}
use Rattle.std.proofs.lemmas.Bool.{lt-ltb, ltb-true, false_from_ne_true, false≢true}
use Rattle.std.proofs.lemmas.List.{length-map}
use Rattle.std.proofs.lemmas.List.Quantifiers.{position-Some}
use Rattle.std.proofs.lemmas.List.Sums.{position_or_len_is}
use Rattle.std.proofs.lemmas.Map.Keys.{apart_from_distinct}
use Rattle.std.proofs.lemmas.Option.{unwrap_or-slice_get}
use Rattle.std.proofs.lemmas.Slice.Eq.{bytes_eq-Decides}
use Rattle.sut_classes.specs.ClassLists.{ClassLists, ProductClass, IndustryClass}
use Rattle.sut_classes.specs.Places.{codes_of, column_from, column_of, count_of, place_of}
use Rattle.sut_classes.specs.declared.ids.Axis.{Axis}
use Rattle.sut_classes.specs.declared.ids.Axis.TheVariants as axis
use Rattle.sut_classes.specs.declared.ids.Column.{Column}
use Rattle.sut_classes.specs.declared.ids.Column.TheVariants as column
use Rattle.sut_measures.specs.DistinctCodes.{HasDistinctCodes}
use Rattle.sut_measures.specs.Fits.{has_column}
use Rattle.sut_measures.specs.Names.{code, column_code}
use Rattle.sut_measures.specs.Shapes.{length_of}

bytes_eq-refl : (xs : List ℕ) → bytes_eq xs xs ≡ true
bytes_eq-refl xs = (bytes_eq-Decides xs xs).1 refl

bytes_eq-flip : (xs ys : List ℕ) → bytes_eq xs ys ≡ false → bytes_eq ys xs ≡ false
bytes_eq-flip xs ys h = false_from_ne_true (bytes_eq ys xs) (λ e. false≢true (sym h ∙ (bytes_eq-Decides xs ys).1 (sym ((bytes_eq-Decides ys xs).0 e))))

-- in a list of distinct codes each code is found at its place
position-distinct : (xs : List (List ℕ)) (n : ℕ) → IsDistinct bytes_eq xs → n < length xs → position (bytes_eq (get_or xs n [])) xs ≡ Some n
position-distinct xs n distinct below =
    let first : position_or_len (bytes_eq (get_or xs n [])) xs ≡ n =
    position_or_len_is (bytes_eq (get_or xs n [])) xs n [] (omega arith)
    (λ k h. bytes_eq-flip (get_or xs k []) (get_or xs n []) (apart_from_distinct bytes_eq xs k n [] distinct h below))
    (λ h. bytes_eq-refl (get_or xs n [])) in
    let within : nat_lt n (length xs) ≡ true = lt-ltb n (length xs) below in
    rw (first, within)

pub count_of-length : (cs : ClassLists) (a : Axis) → count_of cs a ≡ length_of cs a
count_of-length cs axis.Product = length-map cs.products (λ (p : ProductClass). p.code)
count_of-length cs axis.Industry = length-map cs.industries (λ (j : IndustryClass). j.code)
count_of-length cs axis.Final = refl
count_of-length cs axis.Item = refl
count_of-length cs axis.Margin = refl
count_of-length cs axis.Tax = refl
count_of-length cs axis.ProductGroup = refl
count_of-length cs axis.IndustryGroup = refl

pub place_of-code : (cs : ClassLists) → HasDistinctCodes cs → (a : Axis) (n : ℕ) → IsTrue (nat_lt n (length_of cs a)) → place_of cs a (code cs a n) ≡ Some n
place_of-code cs h a n below =
    let within : n < count_of cs a = rw (count_of-length cs a) (ltb-true n (length_of cs a) below) in
    rw (unwrap_or-slice_get (codes_of cs a) n []) (position-distinct (codes_of cs a) n (h.distinct a) within)

pub code-place_of : (cs : ClassLists) (a : Axis) (text : List ℕ) (n : ℕ) → place_of cs a text ≡ Some n
    → IsTrue (nat_lt n (length_of cs a)) × (code cs a n ≡ text)
code-place_of cs a text n e =
    let at = position-Some (bytes_eq text) (codes_of cs a) n [] e in
    (rw (← count_of-length cs a) (lt-ltb n (count_of cs a) at.0), unwrap_or-slice_get (codes_of cs a) n [] ∙ sym ((bytes_eq-Decides text (get_or (codes_of cs a) n [])).0 at.1))

column-from : (cs : ClassLists) (text : List ℕ) (j f : Option ℕ) → place_of cs axis.Industry text ≡ j → place_of cs axis.Final text ≡ f
    → (q : Column) → column_from j f ≡ Some q → IsTrue (has_column cs q) × (column_code cs q ≡ text)
column-from cs text (Some j) f ej ef q e = let P : Column → Type 0 = λ r. IsTrue (has_column cs r) × (column_code cs r ≡ text) in
    let same : column.Industry (record { 0 = j }) ≡ q = cc in subst P same (code-place_of cs axis.Industry text j ej)
column-from cs text None (Some f) ej ef q e = let P : Column → Type 0 = λ r. IsTrue (has_column cs r) × (column_code cs r ≡ text) in
    let same : column.Final (record { 0 = f }) ≡ q = cc in subst P same (code-place_of cs axis.Final text f ef)
column-from cs text None None ej ef q e = absurd cc

pub column-column_of : (cs : ClassLists) (text : List ℕ) (q : Column) → column_of cs text ≡ Some q
    → IsTrue (has_column cs q) × (column_code cs q ≡ text)
column-column_of cs text q e =
    column-from cs text (place_of cs axis.Industry text) (place_of cs axis.Final text) refl refl q e
