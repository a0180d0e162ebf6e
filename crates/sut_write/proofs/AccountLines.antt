-- The entries of the accounts, printed one after another.
use Rattle.std.proofs.Common.{◌≡◌, ◌++◌, ◌∷◌, ◌∙◌, ℕ, List, [], map, refl, sym, ap, append_assoc, append-nil}
use Rattle.std.specs.List.{flat_map}
use Rattle.std.proofs.lemmas.Grind.{flat_map-append}
use Rattle.sut_text.specs.Text.{line_text}

pub entries-over : {I : Type 0} (f : I → List (List ℕ)) (make : ℕ → I) (ns : List ℕ) → flat_map (λ n. line_text (f (make n))) ns ≡ flat_map line_text (map f (map make ns))
entries-over f make [] = refl
entries-over f make (n ∷ ns) = ap (λ t. line_text (f (make n)) ++ t) (entries-over f make ns)

pub blocks-over : {I : Type 0} (f : I → List (List (List ℕ))) (make : ℕ → I) (ns : List ℕ) → flat_map (λ n. flat_map line_text (f (make n))) ns ≡ flat_map line_text (flat_map f (map make ns))
blocks-over f make [] = refl
blocks-over f make (n ∷ ns) =
    ap (λ t. flat_map line_text (f (make n)) ++ t) (blocks-over f make ns)
    ∙ sym (flat_map-append line_text (f (make n)) (flat_map f (map make ns)))

pub three-entries : (f g h : List (List ℕ)) (old one two new : List ℕ) → one ≡ old ++ line_text f → two ≡ one ++ line_text g → new ≡ two ++ line_text h
    → new ≡ old ++ flat_map line_text (f ∷ g ∷ h ∷ [])
three-entries f g h old one two new p q r =
    r
    ∙ ap (λ t. t ++ line_text h) (q ∙ ap (λ t. t ++ line_text g) p ∙ append_assoc old (line_text f) (line_text g))
    ∙ append_assoc old (line_text f ++ line_text g) (line_text h)
    ∙ ap (λ t. old ++ t) (append_assoc (line_text f) (line_text g) (line_text h))
    ∙ ap (λ t. old ++ (line_text f ++ (line_text g ++ t))) (sym (append-nil (line_text h)))

pub entry-after : (fs : List (List (List ℕ))) (g : List (List ℕ)) (old one new : List ℕ) → one ≡ old ++ flat_map line_text fs → new ≡ one ++ line_text g
    → new ≡ old ++ flat_map line_text (fs ++ g ∷ [])
entry-after fs g old one new p q =
    q
    ∙ ap (λ t. t ++ line_text g) p
    ∙ append_assoc old (flat_map line_text fs) (line_text g)
    ∙ ap (λ t. old ++ (flat_map line_text fs ++ t)) (sym (append-nil (line_text g)))
    ∙ ap (λ t. old ++ t) (sym (flat_map-append line_text fs (g ∷ [])))

pub two-after : (fs : List (List (List ℕ))) (g h : List (List ℕ)) (old one two new : List ℕ) → one ≡ old ++ flat_map line_text fs → two ≡ one ++ line_text g → new ≡ two ++ line_text h
    → new ≡ old ++ flat_map line_text (fs ++ (g ∷ h ∷ []))
two-after fs g h old one two new p q r =
    entry-after (fs ++ g ∷ []) h old two new (entry-after fs g old one two p q) r
    ∙ ap (λ ls. old ++ flat_map line_text ls) (append_assoc fs (g ∷ []) (h ∷ []))

pub block-after : (fs gs : List (List (List ℕ))) (old one new : List ℕ) → one ≡ old ++ flat_map line_text fs → new ≡ one ++ flat_map line_text gs
    → new ≡ old ++ flat_map line_text (fs ++ gs)
block-after fs gs old one new p q =
    q
    ∙ ap (λ t. t ++ flat_map line_text gs) p
    ∙ append_assoc old (flat_map line_text fs) (flat_map line_text gs)
    ∙ ap (λ t. old ++ t) (sym (flat_map-append line_text fs gs))

pub five-blocks : (header : List (List ℕ)) (a b c d e : List (List (List ℕ))) (empty o1 o2 o3 o4 o5 o6 : List ℕ) → empty ≡ [] → o1 ≡ empty ++ line_text header → o2 ≡ o1 ++ flat_map line_text a
    → o3 ≡ o2 ++ flat_map line_text b → o4 ≡ o3 ++ flat_map line_text c → o5 ≡ o4 ++ flat_map line_text d → o6 ≡ o5 ++ flat_map line_text e
    → o6 ≡ line_text header ++ flat_map line_text ((((a ++ b) ++ c) ++ d) ++ e)
five-blocks header a b c d e empty o1 o2 o3 o4 o5 o6 none p q r s u v =
    let head : o1 ≡ line_text header = p ∙ ap (λ t. t ++ line_text header) none in
    block-after (((a ++ b) ++ c) ++ d) e (line_text header) o5 o6
    (block-after ((a ++ b) ++ c) d (line_text header) o4 o5
    (block-after (a ++ b) c (line_text header) o3 o4
    (block-after a b (line_text header) o2 o3 (q ∙ ap (λ t. t ++ flat_map line_text a) head) r) s) u) v
