-- The columns of the supply table, one after another.
use Rattle.std.proofs.Common.{◌≡◌, ◌++◌, ◌∷◌, true, pos, List, [], map, refl, sym, subst}
use Rattle.std.specs.Prelude.{All}
use Rattle.std.proofs.lemmas.List.Elements.{All-append, All-cons, All-map, All-nil}
use Rattle.sut_write.specs.Places.{industries, margins, taxes}
use Rattle.sut_write.specs.Supply.{column_sum, supply_columns, supply_heading}
use Rattle.sut_write.proofs.Layers.{no-net_margins}
use Rattle.sut_laws.specs.Valuation.{MarginColumnsCancel, is_margin_heading}

-- what holds of each part of such a list holds of each element
each : {X J K L : Type 0} {f : J → X} {a b : X} {g : K → X} {h : L → X} {z : X} (P : X → Type 0) (xs : List X) (js : List J) (ks : List K) (ls : List L)
    → xs ≡ ((map f js ++ (a ∷ b ∷ map g ks)) ++ map h ls) ++ (z ∷ [])
    → ((j : J) → P (f j)) → P a → P b → ((k : K) → P (g k)) → ((l : L) → P (h l)) → P z → All P xs
each {f = f} {a = a} {b = b} {g = g} {h = h} {z = z} P xs js ks ls e pf pa pb pg ph pz =
    subst (All P) (sym e)
    (All-append P ((map f js ++ (a ∷ b ∷ map g ks)) ++ map h ls) (z ∷ [])
    (All-append P (map f js ++ (a ∷ b ∷ map g ks)) (map h ls)
    (All-append P (map f js) (a ∷ b ∷ map g ks) (All-map P f js (λ k j l. pf _)) (All-cons P a (b ∷ map g ks) pa (All-cons P b (map g ks) pb (All-map P g ks (λ k j l. pg _)))))
    (All-map P h ls (λ k j l. ph _)))
    (All-cons P z [] pz (All-nil P)))

pub columns-cancel : MarginColumnsCancel
columns-cancel p t ok of meets =
    each (λ c. is_margin_heading (supply_heading p.classes c) ≡ true → column_sum p.classes t c ≡ pos 0) (supply_columns p.classes) (industries p.classes) (margins p.classes) (taxes p.classes) refl
    (λ j e. cc) (λ e. cc) (λ e. cc) (λ k e. no-net_margins p t ok of meets k) (λ x e. cc) (λ e. cc)
