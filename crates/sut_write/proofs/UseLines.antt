-- The lines of the use table, printed in parts.
use Rattle.std.proofs.Common.{◌≡◌, ◌++◌, ◌∷◌, ◌∙◌, ℕ, List, [], map, refl, sym, ap, append_assoc, append-nil, arith, length, length-append, ◌≤◌}
use Rattle.std.specs.List.{flat_map}
use Rattle.std.proofs.lemmas.Grind.{flat_map-append}
use Rattle.std.proofs.lemmas.List.{length-map, map-append}
use Rattle.std.proofs.lemmas.List.FromFn.{length-map-range_with_len}
use Rattle.sut_text.specs.Text.{line_text}
use Rattle.sut_classes.specs.ClassLists.{ClassLists, IndustryClass}
use Rattle.sut_classes.specs.Kept.{IsClasses}
use Rattle.sut_classes.specs.declared.ids.Axis.TheVariants as axis
use Rattle.sut_classes.specs.declared.ids.Column.{Column}
use Rattle.sut_classes.specs.declared.ids.Column.TheVariants as column
use Rattle.sut_tables.specs.TableFacts.{TableFacts}
use Rattle.sut_write.specs.Places.{columns, finals, industries, products}
use Rattle.sut_write.specs.Use.{product_lines, total_lines, use_header, use_line, use_text}
use Rattle.sut_write.proofs.Printed.{flat_map-of_map}

-- the last field of a line and its end
end-of : (second fields last : List ℕ) → ((44 ∷ second) ++ (fields ++ (44 ∷ (last ++ [])))) ++ 10 ∷ [] ≡ (44 ∷ second) ++ (fields ++ (44 ∷ (last ++ 10 ∷ [])))
end-of second fields last =
    append_assoc (44 ∷ second) (fields ++ (44 ∷ (last ++ []))) (10 ∷ [])
    ∙ ap (λ t. (44 ∷ second) ++ t) (append_assoc fields (44 ∷ (last ++ [])) (10 ∷ []) ∙ ap (λ t. fields ++ (44 ∷ (t ++ 10 ∷ []))) (append-nil last))

parts-joined : (old first second fields end : List ℕ) → ((((old ++ first) ++ 44 ∷ []) ++ second) ++ fields) ++ end ≡ old ++ (first ++ ((44 ∷ second) ++ (fields ++ end)))
parts-joined old first second fields end =
    append_assoc (((old ++ first) ++ 44 ∷ []) ++ second) fields end
    ∙ append_assoc ((old ++ first) ++ 44 ∷ []) second (fields ++ end)
    ∙ append_assoc (old ++ first) (44 ∷ []) (second ++ (fields ++ end))
    ∙ append_assoc old first ((44 ∷ second) ++ (fields ++ end))

line-is : {X : Type 0} (g : X → List ℕ) (ys : List X) (first second last : List ℕ)
    → line_text (first ∷ second ∷ (map g ys ++ last ∷ [])) ≡ first ++ ((44 ∷ second) ++ (flat_map (λ x. 44 ∷ g x) ys ++ (44 ∷ (last ++ 10 ∷ []))))
line-is g ys first second last =
    let fields = flat_map (λ x. 44 ∷ g x) ys in
    ap (λ t. (first ++ ((44 ∷ second) ++ t)) ++ 10 ∷ []) (flat_map-append (λ field. 44 ∷ field) (map g ys) (last ∷ []) ∙ ap (λ t. t ++ (44 ∷ (last ++ []))) (flat_map-of_map (λ field. 44 ∷ field) g ys))
    ∙ append_assoc first ((44 ∷ second) ++ (fields ++ (44 ∷ (last ++ [])))) (10 ∷ [])
    ∙ ap (λ t. first ++ t) (end-of second fields last)

-- two fields, then further ones behind commas, and a last one
pub fields-parts : {X : Type 0} (g : X → List ℕ) (xs ys : List X) (old o1 o2 o3 o4 new first second last : List ℕ) → xs ≡ ys → o1 ≡ old ++ first → o2 ≡ o1 ++ 44 ∷ [] → o3 ≡ o2 ++ second
    → o4 ≡ o3 ++ flat_map (λ x. 44 ∷ g x) xs → new ≡ o4 ++ (44 ∷ (last ++ 10 ∷ []))
    → new ≡ old ++ line_text (first ∷ second ∷ (map g ys ++ last ∷ []))
fields-parts g xs ys old o1 o2 o3 o4 new first second last same e1 e2 e3 e4 e5 =
    let end = 44 ∷ (last ++ 10 ∷ []) in
    e5
    ∙ ap (λ t. t ++ end) (e4 ∙ ap (λ t. t ++ flat_map (λ x. 44 ∷ g x) xs) (e3 ∙ ap (λ t. t ++ second) (e2 ∙ ap (λ t. t ++ 44 ∷ []) e1)) ∙ ap (λ zs. (((old ++ first) ++ 44 ∷ []) ++ second) ++ flat_map (λ x. 44 ∷ g x) zs) same)
    ∙ parts-joined old first second (flat_map (λ x. 44 ∷ g x) ys) end
    ∙ ap (λ t. old ++ t) (sym (line-is g ys first second last))

-- the header: its first two fields and its last one are printed with their commas
pub header-parts : {X : Type 0} (g : X → List ℕ) (xs ys : List X) (old one two new first second last : List ℕ) → xs ≡ ys → one ≡ old ++ (first ++ (44 ∷ second))
    → two ≡ one ++ flat_map (λ x. 44 ∷ g x) xs → new ≡ two ++ (44 ∷ (last ++ 10 ∷ []))
    → new ≡ old ++ line_text (first ∷ second ∷ (map g ys ++ last ∷ []))
header-parts g xs ys old one two new first second last same p q r =
    fields-parts g xs ys old (old ++ first) ((old ++ first) ++ 44 ∷ []) one two new first second last same refl refl
    (p ∙ sym (append_assoc (old ++ first) (44 ∷ []) second ∙ append_assoc old first (44 ∷ second))) q r

pub lines-over : {I X : Type 0} (f : X → List (List ℕ)) (g : I → X) (make : ℕ → I) (ns : List ℕ) → flat_map (λ n. line_text (f (g (make n)))) ns ≡ flat_map line_text (map f (map g (map make ns)))
lines-over f g make [] = refl
lines-over f g make (n ∷ ns) = ap (λ t. line_text (f (g (make n))) ++ t) (lines-over f g make ns)

pub layers-over : {I X : Type 0} (f : X → List (List ℕ)) (g : I → List X) (make : ℕ → I) (ns : List ℕ) → flat_map (λ n. flat_map line_text (map f (g (make n)))) ns ≡ flat_map line_text (map f (flat_map g (map make ns)))
layers-over f g make [] = refl
layers-over f g make (n ∷ ns) =
    ap (λ t. flat_map line_text (map f (g (make n))) ++ t) (layers-over f g make ns)
    ∙ sym (flat_map-append line_text (map f (g (make n))) (map f (flat_map g (map make ns))))
    ∙ sym (ap (flat_map line_text) (map-append f (g (make n)) (flat_map g (map make ns))))

four-parts : (old a b c d : List ℕ) → (((old ++ a) ++ b) ++ c) ++ d ≡ old ++ (a ++ (b ++ (c ++ d)))
four-parts old a b c d = simp append_assoc

pub layers-printed : {X : Type 0} (f : X → List (List ℕ)) (first last : X) (ms ts : List X) (old o1 o2 o3 new : List ℕ) → o1 ≡ old ++ line_text (f first) → o2 ≡ o1 ++ flat_map line_text (map f ms)
    → o3 ≡ o2 ++ flat_map line_text (map f ts) → new ≡ o3 ++ line_text (f last)
    → new ≡ old ++ flat_map line_text (map f (((first ∷ ms) ++ ts) ++ last ∷ []))
layers-printed f first last ms ts old o1 o2 o3 new e1 e2 e3 e4 =
    let a = line_text (f first) in
    let b = flat_map line_text (map f ms) in
    let c = flat_map line_text (map f ts) in
    let d = line_text (f last) in
    let rest : flat_map line_text (map f ((ms ++ ts) ++ last ∷ [])) ≡ b ++ (c ++ (d ++ [])) =
    ap (flat_map line_text) (map-append f (ms ++ ts) (last ∷ []) ∙ ap (λ zs. zs ++ f last ∷ []) (map-append f ms ts))
    ∙ flat_map-append line_text (map f ms ++ map f ts) (f last ∷ [])
    ∙ ap (λ t. t ++ (d ++ [])) (flat_map-append line_text (map f ms) (map f ts))
    ∙ append_assoc b c (d ++ []) in
    e4 ∙ ap (λ t. t ++ d) (e3 ∙ ap (λ t. t ++ c) (e2 ∙ ap (λ t. t ++ b) e1))
    ∙ four-parts old a b c d
    ∙ ap (λ t. old ++ (a ++ t)) (ap (λ t. b ++ (c ++ t)) (sym (append-nil d)) ∙ sym rest)

pub totals-printed : {X : Type 0} (f : X → List (List ℕ)) (first third last : X) (ms : List X) (old o1 o2 o3 new : List ℕ) → o1 ≡ old ++ line_text (f first) → o2 ≡ o1 ++ flat_map line_text (map f ms)
    → o3 ≡ o2 ++ line_text (f third) → new ≡ o3 ++ line_text (f last)
    → new ≡ old ++ flat_map line_text (map f ((first ∷ ms) ++ (third ∷ last ∷ [])))
totals-printed f first third last ms old o1 o2 o3 new e1 e2 e3 e4 =
    let a = line_text (f first) in
    let b = flat_map line_text (map f ms) in
    let c = line_text (f third) in
    let d = line_text (f last) in
    let rest : flat_map line_text (map f (ms ++ (third ∷ last ∷ []))) ≡ b ++ (c ++ (d ++ [])) =
    ap (flat_map line_text) (map-append f ms (third ∷ last ∷ [])) ∙ flat_map-append line_text (map f ms) (f third ∷ f last ∷ []) in
    e4 ∙ ap (λ t. t ++ d) (e3 ∙ ap (λ t. t ++ c) (e2 ∙ ap (λ t. t ++ b) e1))
    ∙ four-parts old a b c d
    ∙ ap (λ t. old ++ (a ++ t)) (ap (λ t. b ++ (c ++ t)) (sym (append-nil d)) ∙ sym rest)

pub use-printed : (cs : ClassLists) (t : TableFacts) (empty one two text : List ℕ) → empty ≡ [] → one ≡ empty ++ line_text (use_header cs)
    → two ≡ one ++ flat_map line_text (map (use_line cs t) (flat_map (product_lines cs) (products cs))) → text ≡ two ++ flat_map line_text (map (use_line cs t) (total_lines cs)) → text ≡ use_text cs t
unfolding use_text
use-printed cs t empty one two text none p q r =
    r ∙ rw (q, p, none, map-append (use_line cs t) (flat_map (product_lines cs) (products cs)) (total_lines cs), flat_map-append line_text (map (use_line cs t) (flat_map (product_lines cs) (products cs))) (map (use_line cs t) (total_lines cs))) (append_assoc (line_text (use_header cs)) (flat_map line_text (map (use_line cs t) (flat_map (product_lines cs) (products cs)))) (flat_map line_text (map (use_line cs t) (total_lines cs))))

-- there are at most 256 industries and 32 final uses
pub columns-few : (cs : ClassLists) → IsClasses cs → (qs : List Column) → qs ≡ columns cs → length qs ≤ 1024
columns-few cs kept qs same =
    let industries_few : length (map (λ (j : IndustryClass). j.code) cs.industries) ≤ 256 = kept.few axis.Industry in
    let finals_few : length cs.finals ≤ 32 = kept.few axis.Final in
    let industry_codes = length-map cs.industries (λ (j : IndustryClass). j.code) in
    let first = length-map (industries cs) (λ j. column.Industry j) ∙ length-map-range_with_len (λ n. record { 0 = n }) 0 (length cs.industries) in
    let second = length-map (finals cs) (λ f. column.Final f) ∙ length-map-range_with_len (λ n. record { 0 = n }) 0 (length cs.finals) in
    let whole = ap length same ∙ length-append (map (λ j. column.Industry j) (industries cs)) (map (λ f. column.Final f) (finals cs)) in
    omega (arith, industries_few, finals_few, industry_codes, first, second, whole)
