-- Classes keep what `IsClasses` says when a code is added.
use Rattle.std.proofs.Common.{◌≡◌, ◌+◌, ◌<◌, ◌≤◌, ◌++◌, ◌∷◌, ◌||◌, ℕ, zero, suc, List, [], Bool, true, false, nat_lt, Option, Some, None, length, refl, sym, ◌∙◌, arith, ◌⊎◌, inl, inr, length-append}
use Rattle.std.specs.Prelude.{option_map, is_some, All, IfSome, IsTrue, ◌==◌, Result, Ok, Err, OnOk, OnErr}
use Rattle.std.specs.List.{position}
use Rattle.std.specs.Str.{bytes_eq}
use Rattle.std.proofs.lemmas.Bool.{lt-ltb, ltb-true}
use Rattle.std.proofs.lemmas.List.{map-append}
use Rattle.std.proofs.lemmas.List.Elements.{All-append, All-nil, All-weaker}
use Rattle.sut_classes.specs.ClassLists.{ClassLists, Code, ProductClass, IndustryClass}
use Rattle.sut_classes.specs.Places.{code_at, codes_of, count_of, place_of}
use Rattle.sut_classes.specs.ClassFile.{is_code_of, is_taken, limit_of, no_classes, with_code}
use Rattle.sut_classes.specs.Kept.{IsClasses, MayAdd}
use Rattle.sut_classes.specs.declared.ids.MarginId.{MarginId}
use Rattle.sut_classes.specs.declared.ids.ProductGroupId.{ProductGroupId}
use Rattle.sut_classes.specs.declared.ids.IndustryGroupId.{IndustryGroupId}
use Rattle.sut_classes.specs.declared.ids.Axis.{Axis}
use Rattle.sut_classes.specs.declared.ids.Axis.TheVariants as axis
use Rattle.sut_classes.proofs.PlaceLemmas.{got-push, not-same, place, place-missed, place-push, place-stays, position-is, same-code}

-- only the axis that is added to gets the code
pub codes-added : (cs : ClassLists) (a : Axis) (code : Code) (kind group : Option ℕ) (b : Axis)
    → (codes_of (with_code cs a code kind group) b ≡ codes_of cs b) ⊎ ((a ≡ b) × (codes_of (with_code cs a code kind group) b ≡ codes_of cs b ++ code ∷ []))
codes-added cs axis.Product code kind group axis.Product = inr (refl, map-append (λ p. p.code) cs.products _)
codes-added cs axis.Industry code kind group axis.Industry = inr (refl, map-append (λ j. j.code) cs.industries _)
codes-added cs axis.Final code kind group axis.Final = inr (refl, refl)
codes-added cs axis.Item code kind group axis.Item = inr (refl, refl)
codes-added cs axis.Margin code kind group axis.Margin = inr (refl, refl)
codes-added cs axis.Tax code kind group axis.Tax = inr (refl, refl)
codes-added cs axis.ProductGroup code kind group axis.ProductGroup = inr (refl, refl)
codes-added cs axis.IndustryGroup code kind group axis.IndustryGroup = inr (refl, refl)
codes-added cs a code kind group b = inl refl

no-place : (o : Option ℕ) → is_some o ≡ false → o ≡ None
no-place None e = refl
no-place (Some n) e = cc

neither : (a b : Bool) → (a || b) ≡ false → (a ≡ false) × (b ≡ false)
neither true b e = cc
neither false b e = (refl, e)

-- a code that is not taken stands nowhere on its axis, and where it names a column it is no code of the other axis of columns
pub free-place : (cs : ClassLists) (a : Axis) (code : Code) → is_taken cs a code ≡ false → place_of cs a code ≡ None
free-place cs axis.Industry code e = no-place (place_of cs axis.Industry code) (neither (is_some (place_of cs axis.Industry code)) (is_some (place_of cs axis.Final code)) e).0
free-place cs axis.Final code e = no-place (place_of cs axis.Final code) (neither (is_some (place_of cs axis.Industry code)) (is_some (place_of cs axis.Final code)) e).1
free-place cs a code e = no-place (place_of cs a code) e

pub free-final : (cs : ClassLists) (code : Code) → is_taken cs axis.Industry code ≡ false → place_of cs axis.Final code ≡ None
free-final cs code e = no-place (place_of cs axis.Final code) (neither (is_some (place_of cs axis.Industry code)) (is_some (place_of cs axis.Final code)) e).1

pub free-industry : (cs : ClassLists) (code : Code) → is_taken cs axis.Final code ≡ false → place_of cs axis.Industry code ≡ None
free-industry cs code e = no-place (place_of cs axis.Industry code) (neither (is_some (place_of cs axis.Industry code)) (is_some (place_of cs axis.Final code)) e).0

-- no list is longer than its limit
few-added : (cs : ClassLists) (a : Axis) (code : Code) (kind group : Option ℕ) → IsClasses cs → MayAdd cs a code kind group
    → (b : Axis) → count_of (with_code cs a code kind group) b ≤ limit_of b
few-added cs a code kind group kept may b = elim (codes-added cs a code kind group b) [
  | inl same ↦ rw same (kept.few b)
  | inr more ↦
      let room : count_of cs b < limit_of b = rw more.0 at may.room in
      rw (more.1, length-append) (omega (arith, room))
]

lawful-added : (cs : ClassLists) (a : Axis) (code : Code) (kind group : Option ℕ) → IsClasses cs → MayAdd cs a code kind group
    → (b : Axis) (n : ℕ) (c : Code) → code_at (with_code cs a code kind group) b n ≡ Some c → is_code_of b c ≡ true
lawful-added cs a code kind group kept may b n c at = elim (codes-added cs a code kind group b) [
  | inl same ↦ kept.lawful b n c (rw same at at)
  | inr more ↦ elim (got-push (codes_of cs b) code c n (rw more.1 at at)) [
    | inl old ↦ kept.lawful b n c old
    | inr new ↦ rw (← new.1) (rw more.0 at may.lawful)
  ]
]

distinct-added : (cs : ClassLists) (a : Axis) (code : Code) (kind group : Option ℕ) → IsClasses cs → MayAdd cs a code kind group
    → (b : Axis) (n : ℕ) (c : Code) → code_at (with_code cs a code kind group) b n ≡ Some c → place_of (with_code cs a code kind group) b c ≡ Some n
distinct-added cs a code kind group kept may b n c at = elim (codes-added cs a code kind group b) [
  | inl same ↦ rw same (kept.distinct b n c (rw same at at))
  | inr more ↦ elim (got-push (codes_of cs b) code c n (rw more.1 at at)) [
    | inl old ↦
        rw (more.1, position-is (bytes_eq c) (codes_of cs b ++ code ∷ []))
        (place-stays (bytes_eq c) (codes_of cs b) code n (sym (position-is (bytes_eq c) (codes_of cs b)) ∙ kept.distinct b n c old))
    | inr new ↦
        let lost : place_of cs b code ≡ None = rw more.0 at (free-place cs a code may.free) in
        rw (more.1, position-is (bytes_eq c) (codes_of cs b ++ code ∷ []), new.0, ← new.1, place-push (bytes_eq code) (codes_of cs b) code (sym (position-is (bytes_eq code) (codes_of cs b)) ∙ lost), same-code code) refl
  ]
]

stays-absent : (p : List ℕ → Bool) (xs : List Code) (x : Code) → position p xs ≡ None → p x ≡ false → position p (xs ++ x ∷ []) ≡ None
stays-absent p xs x lost other = rw (position-is p (xs ++ x ∷ []), place-push p xs x (sym (position-is p xs) ∙ lost), other) refl

apart-added : (cs : ClassLists) (a : Axis) (code : Code) (kind group : Option ℕ) → IsClasses cs → MayAdd cs a code kind group
    → (n : ℕ) (c : Code) → code_at (with_code cs a code kind group) axis.Final n ≡ Some c → place_of (with_code cs a code kind group) axis.Industry c ≡ None
apart-added cs a code kind group kept may n c at = elim (codes-added cs a code kind group axis.Industry) [
  | inl same ↦ elim (codes-added cs a code kind group axis.Final) [
    | inl alike ↦ rw same (kept.apart n c (rw alike at at))
    | inr more ↦ elim (got-push cs.finals code c n (rw more.1 at at)) [
      | inl old ↦ rw same (kept.apart n c old)
      | inr new ↦ rw (same, ← new.1) (free-industry cs code (rw more.0 at may.free))
    ]
  ]
  | inr more ↦ elim (codes-added cs a code kind group axis.Final) [
    | inl alike ↦
        let old : code_at cs axis.Final n ≡ Some c = rw alike at at in
        let none : place_of cs axis.Final code ≡ None = free-final cs code (rw more.0 at may.free) in
        let other : bytes_eq code c ≡ false = place-missed (bytes_eq code) cs.finals n c (sym (position-is (bytes_eq code) cs.finals) ∙ none) old in
        rw more.1 (stays-absent (bytes_eq c) (codes_of cs axis.Industry) code (kept.apart n c old) (not-same code c other))
    | inr both ↦ let clash : axis.Industry ≡ axis.Final = sym more.0 ∙ both.0 in cc
  ]
]

All-one : {X : Type 0} (P : X → Type 0) (x : X) → P x → All P (x ∷ [])
All-one P x h zero d lt = h
All-one P x h (suc k) d lt = absurd (omega arith)

below : (o : Option ℕ) (n : ℕ) → IfSome o (λ k. k < n) → {I : Type 0} → (place : I → ℕ) (make : ℕ → I) → ((k : ℕ) → place (make k) ≡ k)
    → IfSome (option_map make o) (λ i. IsTrue (nat_lt (place i) n))
below None n h place make back = h
below (Some k) n h place make back = rw (back k) (lt-ltb k n h)

grown : (n : ℕ) (k : ℕ) → IsTrue (nat_lt k n) → IsTrue (nat_lt k (n + 1))
grown n k h = let lt : k < n = ltb-true k n h in lt-ltb k (n + 1) (omega arith)

some-grown : {I : Type 0} (place : I → ℕ) (o : Option I) (n m : ℕ) → m ≡ n + 1 → IfSome o (λ i. IsTrue (nat_lt (place i) n)) → IfSome o (λ i. IsTrue (nat_lt (place i) m))
some-grown place None n m e h = h
some-grown place (Some i) n m e h = rw e (grown n (place i) h)

longer : (xs : List Code) (x : Code) → length (xs ++ x ∷ []) ≡ length xs + 1
longer xs x = rw length-append refl

kinds-added : (cs : ClassLists) (a : Axis) (code : Code) (kind group : Option ℕ) → IsClasses cs → MayAdd cs a code kind group
    → All (λ (i : ProductClass). IfSome i.kind (λ k. IsTrue (nat_lt k.0 (length (with_code cs a code kind group).margins)))) (with_code cs a code kind group).products
kinds-added cs axis.Product code kind group kept may =
    let P : ProductClass → Type 0 = λ i. IfSome i.kind (λ k. IsTrue (nat_lt k.0 (length cs.margins))) in
    All-append P cs.products _ kept.kinds (All-one P _ (below kind (length cs.margins) may.kind (λ (k : MarginId). k.0) (λ k. record { 0 = k }) (λ k. refl)))
kinds-added cs axis.Margin code kind group kept may =
    All-weaker _ _ (λ (i : ProductClass) h. some-grown (λ (k : MarginId). k.0) i.kind (length cs.margins) (length (cs.margins ++ code ∷ [])) (longer cs.margins code) h) cs.products kept.kinds
kinds-added cs a code kind group kept may = kept.kinds

products-added : (cs : ClassLists) (a : Axis) (code : Code) (kind group : Option ℕ) → IsClasses cs → MayAdd cs a code kind group
    → All (λ (i : ProductClass). IfSome i.group (λ g. IsTrue (nat_lt g.0 (length (with_code cs a code kind group).product_groups)))) (with_code cs a code kind group).products
products-added cs axis.Product code kind group kept may =
    let P : ProductClass → Type 0 = λ i. IfSome i.group (λ g. IsTrue (nat_lt g.0 (length cs.product_groups))) in
    All-append P cs.products _ kept.products (All-one P _ (below group (length cs.product_groups) may.group (λ (g : ProductGroupId). g.0) (λ g. record { 0 = g }) (λ g. refl)))
products-added cs axis.ProductGroup code kind group kept may =
    All-weaker _ _ (λ (i : ProductClass) h. some-grown (λ (g : ProductGroupId). g.0) i.group (length cs.product_groups) (length (cs.product_groups ++ code ∷ [])) (longer cs.product_groups code) h) cs.products kept.products
products-added cs a code kind group kept may = kept.products

industries-added : (cs : ClassLists) (a : Axis) (code : Code) (kind group : Option ℕ) → IsClasses cs → MayAdd cs a code kind group
    → All (λ (j : IndustryClass). IfSome j.group (λ h. IsTrue (nat_lt h.0 (length (with_code cs a code kind group).industry_groups)))) (with_code cs a code kind group).industries
industries-added cs axis.Industry code kind group kept may =
    let P : IndustryClass → Type 0 = λ j. IfSome j.group (λ h. IsTrue (nat_lt h.0 (length cs.industry_groups))) in
    All-append P cs.industries _ kept.industries (All-one P _ (below group (length cs.industry_groups) may.group (λ (h : IndustryGroupId). h.0) (λ h. record { 0 = h }) (λ h. refl)))
industries-added cs axis.IndustryGroup code kind group kept may =
    All-weaker _ _ (λ (j : IndustryClass) h. some-grown (λ (g : IndustryGroupId). g.0) j.group (length cs.industry_groups) (length (cs.industry_groups ++ code ∷ [])) (longer cs.industry_groups code) h) cs.industries kept.industries
industries-added cs a code kind group kept may = kept.industries

format-added : (cs : ClassLists) (a : Axis) (code : Code) (kind group : Option ℕ) → (with_code cs a code kind group).format ≡ cs.format
format-added cs axis.Product code kind group = refl
format-added cs axis.Industry code kind group = refl
format-added cs axis.Final code kind group = refl
format-added cs axis.Item code kind group = refl
format-added cs axis.Margin code kind group = refl
format-added cs axis.Tax code kind group = refl
format-added cs axis.ProductGroup code kind group = refl
format-added cs axis.IndustryGroup code kind group = refl

ungrouped-added : (cs : ClassLists) (a : Axis) (code : Code) (kind group : Option ℕ) → IsClasses cs → MayAdd cs a code kind group
    → (with_code cs a code kind group).format ≡ 1 → ((with_code cs a code kind group).product_groups ≡ []) × ((with_code cs a code kind group).industry_groups ≡ [])
ungrouped-added cs axis.ProductGroup code kind group kept may old = let two : cs.format ≡ 2 = may.format refl in absurd (omega arith)
ungrouped-added cs axis.IndustryGroup code kind group kept may old = let two : cs.format ≡ 2 = may.format refl in absurd (omega arith)
ungrouped-added cs axis.Product code kind group kept may old = kept.ungrouped old
ungrouped-added cs axis.Industry code kind group kept may old = kept.ungrouped old
ungrouped-added cs axis.Final code kind group kept may old = kept.ungrouped old
ungrouped-added cs axis.Item code kind group kept may old = kept.ungrouped old
ungrouped-added cs axis.Margin code kind group kept may old = kept.ungrouped old
ungrouped-added cs axis.Tax code kind group kept may old = kept.ungrouped old

pub IsClasses-added : (cs : ClassLists) (a : Axis) (code : Code) (kind group : Option ℕ) → IsClasses cs → MayAdd cs a code kind group → IsClasses (with_code cs a code kind group)
IsClasses-added cs a code kind group kept may = record {
  format = rw (format-added cs a code kind group) kept.format;
  ungrouped = ungrouped-added cs a code kind group kept may;
  few = few-added cs a code kind group kept may;
  lawful = lawful-added cs a code kind group kept may;
  distinct = distinct-added cs a code kind group kept may;
  apart = apart-added cs a code kind group kept may;
  kinds = kinds-added cs a code kind group kept may;
  products = products-added cs a code kind group kept may;
  industries = industries-added cs a code kind group kept may;
}

no-codes : (format : ℕ) (a : Axis) → codes_of (no_classes format) a ≡ []
no-codes format axis.Product = refl
no-codes format axis.Industry = refl
no-codes format axis.Final = refl
no-codes format axis.Item = refl
no-codes format axis.Margin = refl
no-codes format axis.Tax = refl
no-codes format axis.ProductGroup = refl
no-codes format axis.IndustryGroup = refl

pub IsClasses-none : (format : ℕ) → IsTrue ((format == 1) || (format == 2)) → IsClasses (no_classes format)
IsClasses-none format known = record {
  format = known;
  ungrouped = λ old. (refl, refl);
  few = λ a. rw (no-codes format a) (omega arith);
  lawful = λ a n code at. let lost : None ≡ Some code = rw (no-codes format a) at at in cc;
  distinct = λ a n code at. let lost : None ≡ Some code = rw (no-codes format a) at at in cc;
  apart = λ n code at. refl;
  kinds = All-nil _;
  products = All-nil _;
  industries = All-nil _;
}

-- what holds of a value and of the value with one more holds after a call that adds it or leaves all as it was
pub either-kept : {A E X : Type 0} (P : X → Type 0) (r : Result A E) (old more new : X) → OnOk r (new ≡ more) → OnErr r (new ≡ old) → P old → P more → P new
either-kept P (Ok a) old more new ok err was will = rw ok will
either-kept P (Err e) old more new ok err was will = rw err was
