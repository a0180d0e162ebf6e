-- Printed rows, one more at a time.
use Rattle.std.proofs.Common.{◌≡◌, ◌∷◌, ◌++◌, ◌∙◌, ℕ, List, [], map, sym, ap, append_assoc}
use Rattle.std.specs.List.{flat_map}
use Rattle.std.proofs.lemmas.Grind.{flat_map-append}
use Rattle.sut_text.specs.Text.{behind, fields_text, line_text}
use Rattle.sut_classes.specs.ClassLists.{ClassLists}
use Rattle.sut_tables.specs.RowFacts.{RowFacts}
use Rattle.sut_settings.specs.SettingsFacts.{SettingsFacts}
use Rattle.sut_source.specs.SourceFile.{source_header}
use Rattle.sut_source.specs.SourceText.{row_line, rows_text}

-- a line in four parts: its name, two further fields, and the last two with the line's end
pub row-printed : (old a b c new x t g l u : List ℕ) (xs : List (List ℕ)) → a ≡ old ++ fields_text (x ∷ xs) → b ≡ a ++ behind t → c ≡ b ++ behind g → new ≡ c ++ (flat_map behind (l ∷ u ∷ []) ++ 10 ∷ [])
    → new ≡ old ++ line_text (x ∷ (xs ++ t ∷ g ∷ l ∷ u ∷ []))
row-printed old a b c new x t g l u xs p q r e = e ∙ rw (r, q, p, flat_map-append behind xs (t ∷ g ∷ l ∷ u ∷ [])) (simp append_assoc)

module _ (s : SettingsFacts) (cs : ClassLists) where
  pub text-started : (rows : List RowFacts) (out : List ℕ) → out ≡ line_text source_header → out ++ flat_map line_text (map (row_line s cs) rows) ≡ rows_text s cs rows
  unfolding rows_text
  text-started rows out e = ap (λ t. t ++ flat_map line_text (map (row_line s cs) rows)) e

  pub text-more : (r : RowFacts) (left rows : List RowFacts) (out more text : List ℕ) → rows ≡ r ∷ left → more ≡ out ++ line_text (row_line s cs r)
      → out ++ flat_map line_text (map (row_line s cs) rows) ≡ text → more ++ flat_map line_text (map (row_line s cs) left) ≡ text
  text-more r left rows out more text e put so_far =
      ap (λ t. t ++ flat_map line_text (map (row_line s cs) left)) put ∙ append_assoc out (line_text (row_line s cs r)) (flat_map line_text (map (row_line s cs) left))
      ∙ ap (λ rs. out ++ flat_map line_text (map (row_line s cs) rs)) (sym e) ∙ so_far
