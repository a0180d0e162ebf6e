-- Drawing rows one after the other.
use Rattle.std.proofs.Common.{◌≡◌, ◌+◌, ℕ, List, [], ◌∷◌, ◌++◌, refl, sym, ◌∙◌, ap, append_assoc, append-nil, arith, map}
use Rattle.std.specs.List.{flat_map, range_with_len}
use Rattle.std.proofs.lemmas.Grind.{flat_map-append}
use Rattle.std.proofs.lemmas.List.FromFn.{map-range_with_len_more}
use Rattle.std.proofs.lemmas.List.{map-id}
use Rattle.sut_text.specs.Text.{line_text}
use Rattle.sut_generate.specs.Generator.{Drawn, next_state, drawn_line, margin_rows}
use Rattle.sut_generate.specs.DrawnRows.{drawn_text, state_after, Draws}

pub state_after-append : (s : ℕ) (xs ys : List Drawn) → state_after s (xs ++ ys) ≡ state_after (state_after s xs) ys
state_after-append s [] ys = refl
state_after-append s (x ∷ xs) ys = state_after-append (next_state s) xs ys

pub drawn_text-append : (s : ℕ) (xs ys : List Drawn) → drawn_text s (xs ++ ys) ≡ drawn_text s xs ++ drawn_text (state_after s xs) ys
unfolding drawn_text
drawn_text-append s [] ys = refl
drawn_text-append s (x ∷ xs) ys = rw (drawn_text-append (next_state s) xs ys) (sym (append_assoc (line_text (drawn_line (next_state s) x)) (drawn_text (next_state s) xs) (drawn_text (state_after (next_state s) xs) ys)))

flat_map-range_more : (f : ℕ → List Drawn) (a n j : ℕ) → a + n ≡ j → flat_map f (range_with_len a (n + 1)) ≡ flat_map f (range_with_len a n) ++ f j
flat_map-range_more f a n j e =
    ap (flat_map f) (sym (map-id (range_with_len a (n + 1))) ∙ map-range_with_len_more (λ k. k) a n j e ∙ ap (λ t. t ++ j ∷ []) (map-id (range_with_len a n)))
    ∙ flat_map-append f (range_with_len a n) (j ∷ []) ∙ ap (λ t. flat_map f (range_with_len a n) ++ t) (append-nil (f j))

-- nothing is drawn
pub Draws-none : (out : List ℕ) (s : ℕ) → Draws out s [] out s
unfolding drawn_text
Draws-none out s = record { lines = sym (append-nil out); state_is = refl }

-- some rows are drawn, and then others
pub Draws-then : (out out' out'' : List ℕ) (s s' s'' : ℕ) (xs ys : List Drawn) → Draws out s xs out' s' → Draws out' s' ys out'' s'' → Draws out s (xs ++ ys) out'' s''
Draws-then out out' out'' s s' s'' xs ys p q = record {
  lines = q.lines ∙ rw (p.lines, p.state_is, drawn_text-append s xs ys) (append_assoc out (drawn_text s xs) (drawn_text (state_after s xs) ys));
  state_is = q.state_is ∙ ap (λ t. state_after t ys) p.state_is ∙ sym (state_after-append s xs ys);
}

-- one more row of a range
pub Draws-more : (f : ℕ → Drawn) (out out' out'' : List ℕ) (s s' s'' : ℕ) (j : ℕ) → Draws out s (map f (range_with_len 1 j)) out' s' → Draws out' s' (f (j + 1) ∷ []) out'' s'' → Draws out s (map f (range_with_len 1 (j + 1))) out'' s''
Draws-more f out out' out'' s s' s'' j p q = rw (map-range_with_len_more f 1 j (j + 1) (omega arith)) (Draws-then out out' out'' s s' s'' _ _ p q)

-- one row is drawn
pub Draws-one : (out out' : List ℕ) (s s' : ℕ) (r : Drawn) → s' ≡ next_state s → out' ≡ out ++ line_text (drawn_line s' r) → Draws out s (r ∷ []) out' s'
unfolding drawn_text
Draws-one out out' s s' r d e = record { lines = e ∙ rw d (ap (λ t. out ++ t) (sym (append-nil (line_text (drawn_line (next_state s) r))))); state_is = d }

-- the rows of one more product
pub Draws-more_rows : (f : ℕ → List Drawn) (out out' out'' : List ℕ) (s s' s'' : ℕ) (i : ℕ) → Draws out s (flat_map f (range_with_len 1 i)) out' s' → Draws out' s' (f (i + 1)) out'' s'' → Draws out s (flat_map f (range_with_len 1 (i + 1))) out'' s''
Draws-more_rows f out out' out'' s s' s'' i p q = rw (flat_map-range_more f 1 i (i + 1) (omega arith)) (Draws-then out out' out'' s s' s'' _ _ p q)

-- the first product has no margin
pub Draws-no_margin : (out : List ℕ) (s i : ℕ) → i ≡ 1 → Draws out s (margin_rows i) out s
Draws-no_margin out s i e = rw e (Draws-none out s)

-- the rows of a product, one part after the other
pub Draws-product : (out o1 o2 o3 o4 o5 o6 : List ℕ) (s s1 s2 s3 s4 s5 s6 : ℕ) (make import tax : Drawn) (uses finals margin : List Drawn) → Draws out s (make ∷ []) o1 s1 → Draws o1 s1 (import ∷ []) o2 s2 → Draws o2 s2 uses o3 s3 → Draws o3 s3 finals o4 s4 → Draws o4 s4 margin o5 s5 → Draws o5 s5 (tax ∷ []) o6 s6 → Draws out s (make ∷ import ∷ (uses ++ finals ++ margin ++ tax ∷ [])) o6 s6
Draws-product out o1 o2 o3 o4 o5 o6 s s1 s2 s3 s4 s5 s6 make import tax uses finals margin d1 d2 d3 d4 d5 d6 =
    Draws-then out o1 o6 s s1 s6 (make ∷ []) _ d1 (Draws-then o1 o2 o6 s1 s2 s6 (import ∷ []) _ d2
    (Draws-then o2 o5 o6 s2 s5 s6 _ _ (Draws-then o2 o4 o5 s2 s4 s5 _ _ (Draws-then o2 o3 o4 s2 s3 s4 _ _ d3 d4) d5) d6))
