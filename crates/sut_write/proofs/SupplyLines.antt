-- The lines of the supply table, printed in parts.
use Rattle.std.proofs.Common.{◌≡◌, ◌++◌, ◌∷◌, ◌∙◌, ℕ, List, [], map, refl, sym, ap, append_assoc, append-nil}
use Rattle.std.specs.List.{flat_map}
use Rattle.std.proofs.lemmas.Grind.{flat_map-append}
use Rattle.sut_text.specs.Text.{line_text}
use Rattle.sut_classes.specs.ClassLists.{ClassLists}
use Rattle.sut_tables.specs.TableFacts.{TableFacts}
use Rattle.sut_write.specs.Places.{products}
use Rattle.sut_write.specs.Supply.{supply_header, supply_line, supply_sums, supply_text}
use Rattle.sut_write.proofs.Printed.{flat_map-of_map}

-- a line whose first field is printed, then each further one behind a comma, and then its end
pub line-parts : {X : Type 0} (g : X → List ℕ) (xs ys : List X) (old one two new first : List ℕ) → xs ≡ ys → one ≡ old ++ first → two ≡ one ++ flat_map (λ x. 44 ∷ g x) xs → new ≡ two ++ 10 ∷ []
    → new ≡ old ++ line_text (first ∷ map g ys)
line-parts g xs ys old one two new first same p q r =
    r
    ∙ ap (λ t. t ++ 10 ∷ []) (q ∙ ap (λ t. t ++ flat_map (λ x. 44 ∷ g x) xs) p ∙ append_assoc old first (flat_map (λ x. 44 ∷ g x) xs)
    ∙ ap (λ zs. old ++ (first ++ flat_map (λ x. 44 ∷ g x) zs)) same
    ∙ ap (λ t. old ++ (first ++ t)) (sym (flat_map-of_map (λ field. 44 ∷ field) g ys)))
    ∙ append_assoc old (first ++ flat_map (λ field. 44 ∷ field) (map g ys)) (10 ∷ [])

-- lines over places
pub lines-of : {I : Type 0} (f : I → List (List ℕ)) (make : ℕ → I) (ns : List ℕ) → flat_map (λ n. line_text (f (make n))) ns ≡ flat_map line_text (map f (map make ns))
lines-of f make [] = refl
lines-of f make (n ∷ ns) = ap (λ t. line_text (f (make n)) ++ t) (lines-of f make ns)

pub supply-printed : (cs : ClassLists) (t : TableFacts) (empty one two text : List ℕ) → empty ≡ [] → one ≡ empty ++ line_text (supply_header cs)
    → two ≡ one ++ flat_map line_text (map (supply_line cs t) (products cs)) → text ≡ two ++ line_text (supply_sums cs t) → text ≡ supply_text cs t
unfolding supply_text
supply-printed cs t empty one two text none p q r =
    let header = line_text (supply_header cs) in
    let lines = flat_map line_text (map (supply_line cs t) (products cs)) in
    let sums = line_text (supply_sums cs t) in
    r ∙ ap (λ s. s ++ sums) (q ∙ ap (λ s. s ++ lines) (p ∙ ap (λ e. e ++ header) none))
    ∙ append_assoc header lines sums
    ∙ ap (λ s. header ++ s) (ap (λ s. lines ++ s) (sym (append-nil sums)) ∙ sym (flat_map-append line_text (map (supply_line cs t) (products cs)) (supply_sums cs t ∷ [])))
