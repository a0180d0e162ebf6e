-- Lines that are printed in parts, and lists of lines.
use Rattle.std.proofs.Common.{◌≡◌, ℕ, List, [], ◌∷◌, ◌++◌, map, refl, sym, ◌∙◌, ap, append_assoc, append-nil}
use Rattle.std.specs.List.{flat_map}
use Rattle.std.proofs.lemmas.Grind.{flat_map-append}
use Rattle.sut_text.specs.Text.{behind, fields_text, line_text, words_text}
use Rattle.sut_text.specs.Fields.{field_bytes}
use Rattle.sut_text.specs.declared.fields.Field.{Field}
use Rattle.sut_tables.specs.ProblemFacts.{ProblemFacts}
use Rattle.sut_tables.specs.TableFacts.{TableFacts}
use Rattle.sut_tables.specs.Problems.{live_measures}
use Rattle.sut_measures.specs.declared.measures.Measure.{Measure}
use Rattle.sut_readback.specs.BalancedText.{balanced_header, balanced_line, balanced_text}

-- the first fields of a line, and then the further ones and the line's end
pub line_then : (old mid new x : List ℕ) (xs rest : List (List ℕ)) → mid ≡ old ++ fields_text (x ∷ xs) → new ≡ mid ++ (flat_map behind rest ++ 10 ∷ []) → new ≡ old ++ line_text (x ∷ (xs ++ rest))
line_then old mid new x xs rest p q = q ∙ rw (p, flat_map-append behind xs rest) (simp append_assoc)

pub flat_map-of_map : {X Y : Type 0} (f : Y → List ℕ) (g : X → Y) (xs : List X) → flat_map f (map g xs) ≡ flat_map (λ x. f (g x)) xs
flat_map-of_map f g [] = refl
flat_map-of_map f g (x ∷ xs) = ap (λ t. f (g x) ++ t) (flat_map-of_map f g xs)

-- a line of words, printed in three parts
pub word_line : (old one two new w : List ℕ) (words : List Field) → one ≡ old ++ w → two ≡ one ++ flat_map (λ f. 32 ∷ field_bytes f) words → new ≡ two ++ 10 ∷ []
    → new ≡ old ++ (words_text (w ∷ map field_bytes words) ++ 10 ∷ [])
word_line old one two new w words p q r =
    r
    ∙ ap (λ t. t ++ 10 ∷ []) (q ∙ ap (λ t. t ++ flat_map (λ f. 32 ∷ field_bytes f) words) p ∙ append_assoc old w (flat_map (λ f. 32 ∷ field_bytes f) words)
    ∙ ap (λ t. old ++ (w ++ t)) (sym (flat_map-of_map (λ word. 32 ∷ word) field_bytes words)))
    ∙ append_assoc old (w ++ flat_map (λ word. 32 ∷ word) (map field_bytes words)) (10 ∷ [])

-- the text of a table, printed line by line
pub table-printed : (p : ProblemFacts) (t : TableFacts) (ms : List Measure) (empty start text : List ℕ) → ms ≡ live_measures p → empty ≡ [] → start ≡ empty ++ line_text balanced_header
    → text ≡ start ++ flat_map (λ m. line_text (balanced_line p t m)) ms → text ≡ balanced_text p t
unfolding balanced_text
table-printed p t ms empty start text live none header lines =
    lines ∙ rw (header, none, live) (ap (λ ls. line_text balanced_header ++ ls) (sym (flat_map-of_map line_text (balanced_line p t) (live_measures p))))

-- three lines, one after another
pub three_lines : (a0 a1 a2 a3 l1 l2 l3 : List ℕ) → a0 ≡ [] → a1 ≡ a0 ++ l1 → a2 ≡ a1 ++ l2 → a3 ≡ a2 ++ l3 → a3 ≡ l1 ++ (l2 ++ (l3 ++ []))
three_lines a0 a1 a2 a3 l1 l2 l3 e0 e1 e2 e3 = rw (e3, e2, e1, e0) (simp (append_assoc, append-nil))

-- a number and a comma, a name, and one field more with the line's end
pub numbered_line : (old one two new number x : List ℕ) (xs : List (List ℕ)) (last : List ℕ) → one ≡ old ++ (number ++ 44 ∷ []) → two ≡ one ++ fields_text (x ∷ xs) → new ≡ two ++ (flat_map behind (last ∷ []) ++ 10 ∷ [])
    → new ≡ old ++ line_text (number ∷ (x ∷ (xs ++ last ∷ [])))
numbered_line old one two new number x xs last p q r =
    line_then old two new number (x ∷ xs) (last ∷ [])
    (q ∙ ap (λ t. t ++ fields_text (x ∷ xs)) p ∙ append_assoc old (number ++ 44 ∷ []) (fields_text (x ∷ xs)) ∙ ap (λ t. old ++ t) (append_assoc number (44 ∷ []) (fields_text (x ∷ xs)))) r
