-- Lines printed one after the other.
use Rattle.std.proofs.Common.{◌≡◌, ◌+◌, ℕ, List, [], ◌∷◌, ◌++◌, sym, ◌∙◌, ap, append_assoc, append-nil, arith, map}
use Rattle.std.specs.List.{flat_map, range_with_len}
use Rattle.std.proofs.lemmas.Grind.{flat_map-append}
use Rattle.std.proofs.lemmas.List.FromFn.{map-range_with_len_more}
use Rattle.sut_text.specs.Text.{line_text}
use Rattle.sut_generate.specs.Generator.{added_line, class_header, drawn_lines, drawn_rows, final_line, industry_line, item_line, made_classes, made_source, margin_line, one_to, product_line, service_line, source_header, tax_line}
use Rattle.sut_generate.specs.DrawnRows.{drawn_text, numbered_text}

-- no line
pub numbered-none : (f : ℕ → List (List ℕ)) (out : List ℕ) → out ≡ out ++ numbered_text f 0
unfolding numbered_text
numbered-none f out = sym (append-nil out)

-- one line more
pub numbered-more : (f : ℕ → List (List ℕ)) (old out new : List ℕ) (j : ℕ) → out ≡ old ++ numbered_text f j → new ≡ out ++ line_text (f (j + 1)) → new ≡ old ++ numbered_text f (j + 1)
unfolding numbered_text
numbered-more f old out new j p q =
    let lines : flat_map line_text (map f (range_with_len 1 (j + 1))) ≡ flat_map line_text (map f (range_with_len 1 j)) ++ line_text (f (j + 1)) =
    ap (flat_map line_text) (map-range_with_len_more f 1 j (j + 1) (omega arith)) ∙ flat_map-append line_text (map f (range_with_len 1 j)) (f (j + 1) ∷ [])
    ∙ ap (λ t. flat_map line_text (map f (range_with_len 1 j)) ++ t) (append-nil (line_text (f (j + 1)))) in
    q ∙ ap (λ t. t ++ line_text (f (j + 1))) p ∙ append_assoc old (flat_map line_text (map f (range_with_len 1 j))) (line_text (f (j + 1))) ∙ ap (λ t. old ++ t) (sym lines)

classes-joined : (h m i t : List (List ℕ)) (a b c : List (List (List ℕ)))
    → ((([] ++ line_text h ++ line_text m) ++ flat_map line_text a) ++ flat_map line_text b) ++ flat_map line_text c ++ line_text i ++ line_text t
    ≡ line_text h ++ (line_text m ++ flat_map line_text (a ++ b ++ c ++ i ∷ t ∷ []))
classes-joined h m i t a b c = simp (flat_map-append, append_assoc)

source-joined : (h s : List (List ℕ)) (a b : List (List (List ℕ)))
    → ((([] ++ line_text h) ++ flat_map line_text a) ++ line_text s) ++ flat_map line_text b ≡ line_text h ++ flat_map line_text (a ++ s ∷ b)
source-joined h s a b = simp (flat_map-append, append_assoc)

-- the lines of the classes, one part after the other
pub classes-printed : (p n : ℕ) (o1 o2 o3 o4 o5 o6 : List ℕ) → o1 ≡ [] → o2 ≡ o1 ++ line_text class_header ++ line_text margin_line → o3 ≡ o2 ++ numbered_text product_line p
    → o4 ≡ o3 ++ numbered_text industry_line n → o5 ≡ o4 ++ numbered_text final_line 3 → o6 ≡ o5 ++ line_text item_line ++ line_text tax_line → o6 ≡ made_classes p n
unfolding made_classes numbered_text
classes-printed p n o1 o2 o3 o4 o5 o6 e1 e2 e3 e4 e5 e6 =
    rw (e6, e5, e4, e3, e2, e1) (classes-joined class_header margin_line item_line tax_line (map product_line (one_to p)) (map industry_line (one_to n)) (map final_line (one_to 3)))

-- the lines of the source
pub source-printed : (seed p n : ℕ) (o1 o2 o3 o4 o5 : List ℕ) → o1 ≡ [] → o2 ≡ o1 ++ line_text source_header → o3 ≡ o2 ++ drawn_text seed (drawn_rows p n)
    → o4 ≡ o3 ++ line_text service_line → o5 ≡ o4 ++ numbered_text added_line n → o5 ≡ made_source seed p n
unfolding made_source drawn_text numbered_text
source-printed seed p n o1 o2 o3 o4 o5 e1 e2 e3 e4 e5 =
    rw (e5, e4, e3, e2, e1) (source-joined source_header service_line (drawn_lines seed (drawn_rows p n)) (map added_line (one_to n)))
