-- The lines of `review.csv`, as they are appended.
use Rattle.std.proofs.Common.{◌≡◌, ◌∙◌, List, [], ◌∷◌, ◌++◌, ℕ, ap, append_assoc, codes, map, sym}
use Rattle.std.specs.List.{flat_map}
use Rattle.sut_text.specs.Text.{line_text}
use Rattle.sut_review.specs.ReviewText.{review_text, seat_line}
use Rattle.sut_review.specs.Seats.{SeatFacts}

-- a first field, and then three behind commas
pub line-appended : (old mid new label seen tally stands : List ℕ) → mid ≡ old ++ label → new ≡ mid ++ (((44 ∷ seen) ++ ((44 ∷ tally) ++ ((44 ∷ stands) ++ []))) ++ 10 ∷ []) → new ≡ old ++ line_text (label ∷ seen ∷ tally ∷ stands ∷ [])
line-appended old mid new label seen tally stands first rest =
    let more : List ℕ = (44 ∷ seen) ++ ((44 ∷ tally) ++ ((44 ∷ stands) ++ [])) in
    rest ∙ ap (λ m. m ++ (more ++ 10 ∷ [])) first ∙ append_assoc old label (more ++ 10 ∷ [])
    ∙ ap (λ t. old ++ t) (sym (append_assoc label more (10 ∷ [])))

-- the header, and then the lines
pub text-whole : {A : Type 0} (f : A → SeatFacts) (start mid out : List ℕ) (given seats : List A) → start ≡ [] → mid ≡ start ++ codes "label,seen,tally,standing\n" → out ≡ mid ++ flat_map line_text (map seat_line (map f given)) → given ≡ seats → out ≡ review_text (map f seats)
unfolding review_text
text-whole f start mid out given seats none header lines same =
    lines ∙ ap (λ m. m ++ flat_map line_text (map seat_line (map f given))) (header ∙ ap (λ s. s ++ codes "label,seen,tally,standing\n") none)
    ∙ ap (λ xs. codes "label,seen,tally,standing\n" ++ flat_map line_text (map seat_line (map f xs))) same
