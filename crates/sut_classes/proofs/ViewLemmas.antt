-- The lists of products and industries, made of their codes and of what else is kept of them.
use Rattle.std.proofs.Common.{◌≡◌, ◌++◌, ◌∷◌, ℕ, zero, suc, List, [], Option, length, map, refl, sym, ap, ◌∙◌, arith}
use Rattle.std.specs.Prelude.{option_map, slice_get}
use Rattle.sut_classes.proofs.CodeLemmas.{mapped-length}
use Rattle.sut_classes.specs.ClassLists.{Code, ProductClass, IndustryClass}
use Rattle.sut_classes.specs.ClassView.{facts_of, products_of, industries_of}
use Rattle.sut_classes.specs.declared.lists.ProductFacts.{ProductFacts}
use Rattle.sut_classes.specs.declared.ids.IndustryGroupId.{IndustryGroupId}

pub product-codes : (xs : List Code) (fs : List ProductFacts) → length xs ≡ length fs → map (λ (p : ProductClass). p.code) (products_of xs fs) ≡ xs
product-codes [] fs h = refl
product-codes (x ∷ xs) [] h = absurd (omega arith)
product-codes (x ∷ xs) (f ∷ fs) h = ap (λ rest. x ∷ rest) (product-codes xs fs (omega arith))

pub industry-codes : (xs : List Code) (gs : List (Option IndustryGroupId)) → length xs ≡ length gs → map (λ (j : IndustryClass). j.code) (industries_of xs gs) ≡ xs
industry-codes [] gs h = refl
industry-codes (x ∷ xs) [] h = absurd (omega arith)
industry-codes (x ∷ xs) (g ∷ gs) h = ap (λ rest. x ∷ rest) (industry-codes xs gs (omega arith))

pub product-count : (xs : List Code) (fs : List ProductFacts) → length xs ≡ length fs → length (products_of xs fs) ≡ length xs
product-count xs fs h = sym (mapped-length (λ (p : ProductClass). p.code) (products_of xs fs)) ∙ ap length (product-codes xs fs h)

pub industry-count : (xs : List Code) (gs : List (Option IndustryGroupId)) → length xs ≡ length gs → length (industries_of xs gs) ≡ length xs
industry-count xs gs h = sym (mapped-length (λ (j : IndustryClass). j.code) (industries_of xs gs)) ∙ ap length (industry-codes xs gs h)

pub product-facts : (xs : List Code) (fs : List ProductFacts) (i : ℕ) → length xs ≡ length fs → option_map facts_of (slice_get (products_of xs fs) i) ≡ slice_get fs i
product-facts [] [] i h = refl
product-facts [] (f ∷ fs) i h = absurd (omega arith)
product-facts (x ∷ xs) [] i h = absurd (omega arith)
product-facts (x ∷ xs) (f ∷ fs) zero h = refl
product-facts (x ∷ xs) (f ∷ fs) (suc i) h = product-facts xs fs i (omega arith)

pub industry-groups : (xs : List Code) (gs : List (Option IndustryGroupId)) (i : ℕ) → length xs ≡ length gs → option_map (λ (j : IndustryClass). j.group) (slice_get (industries_of xs gs) i) ≡ slice_get gs i
industry-groups [] [] i h = refl
industry-groups [] (g ∷ gs) i h = absurd (omega arith)
industry-groups (x ∷ xs) [] i h = absurd (omega arith)
industry-groups (x ∷ xs) (g ∷ gs) zero h = refl
industry-groups (x ∷ xs) (g ∷ gs) (suc i) h = industry-groups xs gs i (omega arith)

-- one more at the end
pub products-more : (xs : List Code) (fs : List ProductFacts) (x : Code) (f : ProductFacts) → length xs ≡ length fs
    → products_of (xs ++ x ∷ []) (fs ++ f ∷ []) ≡ products_of xs fs ++ record { code = x; kind = f.kind; group = f.group } ∷ []
products-more [] [] x f h = refl
products-more [] (g ∷ fs) x f h = absurd (omega arith)
products-more (y ∷ xs) [] x f h = absurd (omega arith)
products-more (y ∷ xs) (g ∷ fs) x f h = ap (λ rest. record { code = y; kind = g.kind; group = g.group } ∷ rest) (products-more xs fs x f (omega arith))

pub industries-more : (xs : List Code) (gs : List (Option IndustryGroupId)) (x : Code) (g : Option IndustryGroupId) → length xs ≡ length gs
    → industries_of (xs ++ x ∷ []) (gs ++ g ∷ []) ≡ industries_of xs gs ++ record { code = x; group = g } ∷ []
industries-more [] [] x g h = refl
industries-more [] (b ∷ gs) x g h = absurd (omega arith)
industries-more (y ∷ xs) [] x g h = absurd (omega arith)
industries-more (y ∷ xs) (b ∷ gs) x g h = ap (λ rest. record { code = y; group = b } ∷ rest) (industries-more xs gs x g (omega arith))
