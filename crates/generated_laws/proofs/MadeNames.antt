-- The measures that the rows of a made source name.
use Rattle.std.proofs.Common.{◌≡◌, ◌<◌, ◌≤◌, ◌+◌, ◌-◌, ◌%◌, ◌&&◌, ◌∷◌, ◌∙◌, ℕ, zero, suc, List, [], Bool, true, map, length, refl, ap, ap₂, arith}
use Rattle.std.specs.Prelude.{IsTrue, codes, nat_lt, slice_get, unwrap_or}
use Rattle.std.specs.Fmt.{digits}
use Rattle.std.proofs.lemmas.Bool.{lt-ltb}
use Rattle.std.proofs.lemmas.List.FromFn.{get_or-map-range_with_len, length-map-range_with_len}
use Rattle.std.proofs.lemmas.Option.{unwrap_or-slice_get}
use Rattle.sut_classes.specs.ClassLists.{ClassLists}
use Rattle.sut_classes.specs.declared.ids.Axis.TheVariants as axis
use Rattle.sut_classes.specs.declared.ids.Column.TheVariants as column
use Rattle.sut_measures.specs.Fits.{fits}
use Rattle.sut_measures.specs.Names.{code, name_fields}
use Rattle.sut_measures.specs.declared.measures.Cell.TheVariants as cell
use Rattle.sut_measures.specs.declared.measures.Measure.{Measure}
use Rattle.sut_measures.specs.declared.measures.Measure.TheVariants as measure
use Rattle.sut_generate.specs.Generator.{final_code, industry_code, one_to, product_code}
use Rattle.generated_laws.specs.MadeLists.{industry_class, made_lists, product_class}
use Rattle.generated_laws.proofs.ClassesRead.{industries-codes, products-codes}

-- ---- the measures

abbrev pub make-of : ℕ → ℕ → Measure
make-of n i = measure.Cell (cell.Make (record { 0 = i - 1 }) (record { 0 = (i - 1) % n }))

abbrev pub import-of : ℕ → Measure
import-of i = measure.Cell (cell.Import (record { 0 = i - 1 }))

abbrev pub use-of : ℕ → ℕ → Measure
use-of i j = measure.Cell (cell.Basic (record { 0 = i - 1 }) (column.Industry (record { 0 = j - 1 })))

abbrev pub final-of : ℕ → ℕ → Measure
final-of i k = measure.Cell (cell.Basic (record { 0 = i - 1 }) (column.Final (record { 0 = k - 1 })))

abbrev pub margin-of : ℕ → Measure
margin-of i = measure.Cell (cell.Margin (record { 0 = 0 }) (record { 0 = i - 1 }) (column.Final (record { 0 = 0 })))

abbrev pub tax-of : ℕ → Measure
tax-of i = measure.Cell (cell.Tax (record { 0 = 0 }) (record { 0 = i - 1 }) (column.Final (record { 0 = 0 })))

abbrev pub service-of : Measure
service-of = measure.Cell (cell.Service (record { 0 = 0 }) (record { 0 = 0 }))

abbrev pub added-of : ℕ → Measure
added-of j = measure.Cell (cell.Added (record { 0 = 0 }) (record { 0 = j - 1 }))

-- ---- their codes

product-at : (p n i : ℕ) → i < p → code (made_lists p n) axis.Product i ≡ product_code (i + 1)
product-at p n i l =
    ap (λ cs. unwrap_or (slice_get cs i) []) (products-codes (one_to p)) ∙ unwrap_or-slice_get (map product_code (one_to p)) i []
    ∙ get_or-map-range_with_len product_code 1 p i (i + 1) [] l (omega arith)

industry-at : (p n j : ℕ) → j < n → code (made_lists p n) axis.Industry j ≡ industry_code (j + 1)
industry-at p n j l =
    ap (λ cs. unwrap_or (slice_get cs j) []) (industries-codes (one_to n)) ∙ unwrap_or-slice_get (map industry_code (one_to n)) j []
    ∙ get_or-map-range_with_len industry_code 1 n j (j + 1) [] l (omega arith)

final-at : (p n k : ℕ) → k < 3 → code (made_lists p n) axis.Final k ≡ final_code (k + 1)
final-at p n k l = unwrap_or-slice_get (map final_code (one_to 3)) k [] ∙ get_or-map-range_with_len final_code 1 3 k (k + 1) [] l (omega arith)

before-next : (i : ℕ) → 1 ≤ i → i - 1 + 1 ≡ i
before-next i l = omega arith

product-named : (p n i : ℕ) → 1 ≤ i → i ≤ p → code (made_lists p n) axis.Product (i - 1) ≡ product_code i
product-named p n i l h = product-at p n (i - 1) (omega arith) ∙ ap product_code (before-next i l)

industry-named : (p n j : ℕ) → 1 ≤ j → j ≤ n → code (made_lists p n) axis.Industry (j - 1) ≡ industry_code j
industry-named p n j l h = industry-at p n (j - 1) (omega arith) ∙ ap industry_code (before-next j l)

final-named : (p n k : ℕ) → 1 ≤ k → k ≤ 3 → code (made_lists p n) axis.Final (k - 1) ≡ final_code k
final-named p n k l h = final-at p n (k - 1) (omega arith) ∙ ap final_code (before-next k l)

first-product : product_code 1 ≡ codes "P1"
unfolding digits
first-product = refl

first-final : final_code 1 ≡ codes "F1"
unfolding digits
first-final = refl

-- ---- they fit

has-product : (p i : ℕ) → 1 ≤ i → i ≤ p → nat_lt (i - 1) (length (map product_class (one_to p))) ≡ true
has-product p i l h = ap (nat_lt (i - 1)) (length-map-range_with_len product_class 1 p) ∙ lt-ltb (i - 1) p (omega arith)

has-industry : (n j : ℕ) → j < n → nat_lt j (length (map industry_class (one_to n))) ≡ true
has-industry n j l = ap (nat_lt j) (length-map-range_with_len industry_class 1 n) ∙ lt-ltb j n l

and-true : (a b : Bool) → a ≡ true → b ≡ true → (a && b) ≡ true
and-true a b e f = rw (e, f) refl

-- ---- what the fields of a row spell

pub record Spells (cs : ClassLists) (kind a b c : List ℕ) (m : Measure) : Type 0 where
  pub name : name_fields cs m ≡ kind ∷ a ∷ b ∷ c ∷ []
  pub fit : IsTrue (fits cs m)

module _ (p n i : ℕ) (some : 1 ≤ i) (most : i ≤ p) where
  pub make-spelled : 1 ≤ n → Spells (made_lists p n) (codes "make") (product_code i) (industry_code ((i - 1) % n + 1)) [] (make-of n i)
  make-spelled l =
      let below : (i - 1) % n < n = omega arith in
      record {
        name = ap₂ (λ a b. codes "make" ∷ a ∷ b ∷ [] ∷ []) (product-named p n i some most) (industry-at p n ((i - 1) % n) below);
        fit = and-true _ _ (has-product p i some most) (has-industry n ((i - 1) % n) below);
      }

  pub import-spelled : Spells (made_lists p n) (codes "import") (product_code i) [] [] (import-of i)
  import-spelled = record {
    name = ap (λ a. codes "import" ∷ a ∷ [] ∷ [] ∷ []) (product-named p n i some most);
    fit = has-product p i some most;
  }

  pub use-spelled : (j : ℕ) → 1 ≤ j → j ≤ n → Spells (made_lists p n) (codes "basic") (product_code i) (industry_code j) [] (use-of i j)
  use-spelled j l h = record {
    name = ap₂ (λ a b. codes "basic" ∷ a ∷ b ∷ [] ∷ []) (product-named p n i some most) (industry-named p n j l h);
    fit = and-true _ _ (has-product p i some most) (has-industry n (j - 1) (omega arith));
  }

  pub final-spelled : (k : ℕ) → 1 ≤ k → k ≤ 3 → Spells (made_lists p n) (codes "basic") (product_code i) (final_code k) [] (final-of i k)
  final-spelled k l h = record {
    name = ap₂ (λ a b. codes "basic" ∷ a ∷ b ∷ [] ∷ []) (product-named p n i some most) (final-named p n k l h);
    fit = and-true _ _ (has-product p i some most) (lt-ltb (k - 1) 3 (omega arith));
  }

  pub margin-spelled : Spells (made_lists p n) (codes "margin") (codes "T") (product_code i) (codes "F1") (margin-of i)
  margin-spelled = record {
    name = ap₂ (λ a b. codes "margin" ∷ codes "T" ∷ a ∷ b ∷ []) (product-named p n i some most) first-final;
    fit = and-true _ _ (has-product p i some most) refl;
  }

  pub tax-spelled : Spells (made_lists p n) (codes "tax") (codes "X") (product_code i) (codes "F1") (tax-of i)
  tax-spelled = record {
    name = ap₂ (λ a b. codes "tax" ∷ codes "X" ∷ a ∷ b ∷ []) (product-named p n i some most) first-final;
    fit = and-true _ _ (has-product p i some most) refl;
  }

pub service-spelled : (p n : ℕ) → 1 ≤ p → Spells (made_lists p n) (codes "service") (codes "P1") (codes "T") [] service-of
service-spelled zero n l = absurd (omega arith)
service-spelled (suc p) n l = record {
  name = ap (λ a. codes "service" ∷ a ∷ codes "T" ∷ [] ∷ []) first-product;
  fit = and-true _ _ (and-true _ _ (has-product (suc p) 1 (omega arith) l) refl) refl;
}

pub added-spelled : (p n j : ℕ) → 1 ≤ j → j ≤ n → Spells (made_lists p n) (codes "added") (codes "V1") (industry_code j) [] (added-of j)
added-spelled p n j l h = record {
  name = ap (λ b. codes "added" ∷ codes "V1" ∷ b ∷ [] ∷ []) (industry-named p n j l h);
  fit = has-industry n (j - 1) (omega arith);
}
