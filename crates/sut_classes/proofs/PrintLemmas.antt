-- Printed lines, one more at a time.
use Rattle.std.proofs.Common.{◌≡◌, ◌+◌, ◌<◌, ◌++◌, ◌∷◌, ℕ, zero, suc, List, [], Some, length, map, take, refl, sym, ap, ◌∙◌, arith, append_assoc, add-one, ◌≤◌}
use Rattle.std.proofs.lemmas.List.{append-nil, take_all}
use Rattle.std.specs.Prelude.{slice_get}
use Rattle.std.specs.List.{flat_map}
use Rattle.std.proofs.lemmas.Grind.{flat_map-append}
use Rattle.std.proofs.lemmas.Option.{slice_get-map}
use Rattle.sut_text.specs.Text.{line_text}
use Rattle.sut_records.specs.RecordList.{Fields}
use Rattle.sut_classes.specs.ClassLists.{ClassLists, Code, ProductClass, IndustryClass}
use Rattle.sut_classes.specs.ClassText.{axis_word, class_header, classes_text, code_text, group_text, industry_group_text, industry_line, kind_text, plain_line, product_line}
use Rattle.sut_classes.specs.Groups.{group_at, industry_group_at}
use Rattle.sut_classes.specs.Places.{codes_of, kind_at}
use Rattle.sut_classes.specs.declared.ids.Axis.{Axis}
use Rattle.sut_classes.specs.declared.ids.Axis.TheVariants as axis

-- the element at a place within a list
pub got : {X : Type 0} (xs : List X) (i : ℕ) → i < length xs → (x : X) × (slice_get xs i ≡ Some x)
got [] i h = absurd (omega arith)
got (x ∷ xs) zero h = (x, refl)
got (x ∷ xs) (suc i) h = got xs i (omega arith)

-- the line of one element more
lines-suc : {X : Type 0} (f : X → Fields) (xs : List X) (i : ℕ) (x : X) → slice_get xs i ≡ Some x
    → flat_map line_text (map f (take (suc i) xs)) ≡ flat_map line_text (map f (take i xs)) ++ line_text (f x)
lines-suc f [] i x at = cc
lines-suc f (y ∷ xs) zero x at = let same : y ≡ x = cc in rw same (append-nil (line_text (f x)))
lines-suc f (y ∷ xs) (suc i) x at =
    ap (λ rest. line_text (f y) ++ rest) (lines-suc f xs i x at) ∙ sym (append_assoc (line_text (f y)) (flat_map line_text (map f (take i xs))) (line_text (f x)))

lines-more : {X : Type 0} (f : X → Fields) (xs : List X) (i : ℕ) (x : X) → slice_get xs i ≡ Some x
    → flat_map line_text (map f (take (i + 1) xs)) ≡ flat_map line_text (map f (take i xs)) ++ line_text (f x)
lines-more f xs i x at = ap (λ n. flat_map line_text (map f (take n xs))) (add-one i) ∙ lines-suc f xs i x at

-- a loop's step and its end, where what was there stands in front
pub printed-more : {X : Type 0} (f : X → Fields) (xs : List X) (i : ℕ) (x : X) (start before after : List ℕ) → slice_get xs i ≡ Some x
    → before ≡ start ++ flat_map line_text (map f (take i xs)) → after ≡ before ++ line_text (f x) → after ≡ start ++ flat_map line_text (map f (take (i + 1) xs))
printed-more f xs i x start before after at so_far line =
    line ∙ ap (λ b. b ++ line_text (f x)) so_far ∙ append_assoc start (flat_map line_text (map f (take i xs))) (line_text (f x)) ∙ ap (λ t. start ++ t) (sym (lines-more f xs i x at))

pub printed-all : {X : Type 0} (f : X → Fields) (xs : List X) (i : ℕ) (start before : List ℕ) → length xs ≤ i
    → before ≡ start ++ flat_map line_text (map f (take i xs)) → before ≡ start ++ flat_map line_text (map f xs)
printed-all f xs i start before past so_far = so_far ∙ ap (λ ys. start ++ flat_map line_text (map f ys)) (take_all i xs past)

-- the code at a place, and what else the lines of products and industries say
pub code-at : (cs : ClassLists) (a : Axis) (n : ℕ) (code : Code) → slice_get (codes_of cs a) n ≡ Some code → code_text cs a n ≡ code
code-at cs a n code at = rw at refl

product-at : (cs : ClassLists) (n : ℕ) (p : ProductClass) → slice_get cs.products n ≡ Some p
    → product_line cs p ≡ axis_word axis.Product ∷ code_text cs axis.Product n ∷ kind_text cs (kind_at cs (record { 0 = n })) ∷ group_text cs (group_at cs (record { 0 = n })) ∷ []
product-at cs n p at = rw (slice_get-map (λ (i : ProductClass). i.code) cs.products n, slice_get-map (λ (i : ProductClass). i.group) cs.products n, at) refl

industry-at : (cs : ClassLists) (n : ℕ) (j : IndustryClass) → slice_get cs.industries n ≡ Some j
    → industry_line cs j ≡ axis_word axis.Industry ∷ code_text cs axis.Industry n ∷ [] ∷ industry_group_text cs (industry_group_at cs (record { 0 = n })) ∷ []
industry-at cs n j at = rw (slice_get-map (λ (k : IndustryClass). k.code) cs.industries n, slice_get-map (λ (k : IndustryClass). k.group) cs.industries n, at) refl

pub product-printed : (cs : ClassLists) (n : ℕ) (p : ProductClass) (word code kind group : List ℕ) → slice_get cs.products n ≡ Some p
    → word ≡ axis_word axis.Product → code ≡ code_text cs axis.Product n → kind ≡ kind_text cs (kind_at cs (record { 0 = n })) → group ≡ group_text cs (group_at cs (record { 0 = n }))
    → line_text (word ∷ code ∷ kind ∷ group ∷ []) ≡ line_text (product_line cs p)
product-printed cs n p word code kind group at e f g h = rw (e, f, g, h) (ap line_text (sym (product-at cs n p at)))

pub industry-printed : (cs : ClassLists) (n : ℕ) (j : IndustryClass) (word code group : List ℕ) → slice_get cs.industries n ≡ Some j
    → word ≡ axis_word axis.Industry → code ≡ code_text cs axis.Industry n → group ≡ industry_group_text cs (industry_group_at cs (record { 0 = n }))
    → line_text (word ∷ code ∷ [] ∷ group ∷ []) ≡ line_text (industry_line cs j)
industry-printed cs n j word code group at e f h = rw (e, f, h) (ap line_text (sym (industry-at cs n j at)))

-- eight parts, one behind the other
eight-parts : {X : Type 0} (f : X → List ℕ) (start : List ℕ) (a b c d e g h i : List X)
    → ((((((((start ++ flat_map f a) ++ flat_map f b) ++ flat_map f c) ++ flat_map f d) ++ flat_map f e) ++ flat_map f g) ++ flat_map f h) ++ flat_map f i)
    ≡ start ++ flat_map f (((((((a ++ b) ++ c) ++ d) ++ e) ++ g) ++ h) ++ i)
eight-parts f start a b c d e g h i = simp (flat_map-append, append_assoc)

pub text-printed : (cs : ClassLists) (t0 t1 t2 t3 t4 t5 t6 t7 t8 : List ℕ)
    → t0 ≡ line_text class_header
    → t1 ≡ t0 ++ flat_map line_text (map (plain_line axis.Margin) cs.margins)
    → t2 ≡ t1 ++ flat_map line_text (map (plain_line axis.ProductGroup) cs.product_groups)
    → t3 ≡ t2 ++ flat_map line_text (map (product_line cs) cs.products)
    → t4 ≡ t3 ++ flat_map line_text (map (plain_line axis.IndustryGroup) cs.industry_groups)
    → t5 ≡ t4 ++ flat_map line_text (map (industry_line cs) cs.industries)
    → t6 ≡ t5 ++ flat_map line_text (map (plain_line axis.Final) cs.finals)
    → t7 ≡ t6 ++ flat_map line_text (map (plain_line axis.Item) cs.items)
    → t8 ≡ t7 ++ flat_map line_text (map (plain_line axis.Tax) cs.taxes)
    → t8 ≡ classes_text cs
unfolding classes_text
text-printed cs t0 t1 t2 t3 t4 t5 t6 t7 t8 e0 e1 e2 e3 e4 e5 e6 e7 e8 =
    rw (e8, e7, e6, e5, e4, e3, e2, e1, e0)
    (eight-parts line_text (line_text class_header) (map (plain_line axis.Margin) cs.margins) (map (plain_line axis.ProductGroup) cs.product_groups) (map (product_line cs) cs.products)
    (map (plain_line axis.IndustryGroup) cs.industry_groups) (map (industry_line cs) cs.industries) (map (plain_line axis.Final) cs.finals) (map (plain_line axis.Item) cs.items) (map (plain_line axis.Tax) cs.taxes))
