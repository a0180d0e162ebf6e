-- Two lists whose elements stand in a relation, place by place.
use Rattle.std.proofs.Common.{◌≡◌, ℕ, zero, suc, ◌+◌, ◌<◌, List, [], ◌∷◌, ◌++◌, false, ◌∙◌, length, take, get_or, Some, subst, sym, ap}
use Rattle.std.specs.Prelude.{All, slice_get, slice_set}
use Rattle.std.specs.List.{AllZip}
use Rattle.std.proofs.lemmas.List.{take_more}
use Rattle.std.proofs.lemmas.List.Elements.{All-head, All-tail}
use Rattle.sut_tables.specs.InOrder.{same_key}
use Rattle.sut_tables.proofs.Lists.{After-differ}
use Rattle.sut_tables.proofs.Ordered.{Sorted, same-flip}
use Rattle.sut_circuit.proofs.Places.{All-at, some-same}

module _ {X Y : Type 0} (R : X → Y → Type 0) where
  -- one more of each
  pub zip-push : (xs : List X) (ys : List Y) (x : X) (y : Y) → AllZip R xs ys → R x y → AllZip R (xs ++ x ∷ []) (ys ++ y ∷ [])
  zip-push [] [] x y h r = (r, tt)
  zip-push [] (z ∷ zs) x y h r = absurd h
  zip-push (w ∷ ws) [] x y h r = absurd h
  zip-push (w ∷ ws) (z ∷ zs) x y h r = (h.0, zip-push ws zs x y h.1 r)

  pub zip-more : (xs : List X) (ys zs : List Y) (k : ℕ) (x : X) (y : Y) → k < length xs → get_or xs k x ≡ x → zs ≡ ys ++ y ∷ [] → AllZip R (take k xs) ys → R x y → AllZip R (take (k + 1) xs) zs
  zip-more xs ys zs k x y l is e h r =
      subst (λ vs. AllZip R (take (k + 1) xs) vs) (sym e)
      (subst (λ ws. AllZip R ws (ys ++ y ∷ [])) (ap (λ z. take k xs ++ z ∷ []) (sym is) ∙ sym (take_more xs k x l)) (zip-push (take k xs) ys x y h r))

  -- at a place
  pub zip-at : (xs : List X) (ys : List Y) (k : ℕ) (x : X) (y : Y) → AllZip R xs ys → slice_get xs k ≡ Some x → slice_get ys k ≡ Some y → R x y
  zip-at [] ys k x y h e f = absurd cc
  zip-at (w ∷ ws) [] k x y h e f = absurd h
  zip-at (w ∷ ws) (z ∷ zs) zero x y h e f = subst (R x) (some-same z y f) (subst (λ v. R v z) (some-same w x e) h.0)
  zip-at (w ∷ ws) (z ∷ zs) (suc k) x y h e f = zip-at ws zs k x y h.1 e f

-- ---- one element changes

module _ {X Y : Type 0} (R S : X → Y → Type 0) where
  zip-weaker : (P : X → Type 0) → ((x : X) (y : Y) → P x → R x y → S x y) → (xs : List X) (ys : List Y) → All P xs → AllZip R xs ys → AllZip S xs ys
  zip-weaker P f [] [] a h = tt
  zip-weaker P f [] (y ∷ ys) a h = absurd h
  zip-weaker P f (x ∷ xs) [] a h = absurd h
  zip-weaker P f (x ∷ xs) (y ∷ ys) a h = (f x y (All-head P x xs a) h.0, zip-weaker P f xs ys (All-tail P x xs a) h.1)

  -- the element at one key stands in the new relation, and the others do where they stood in the old one
  pub zip-set : (key : X → List ℕ) (xs : List X) (ys : List Y) → Sorted key xs → (k : ℕ) (x : X) (y : Y) → slice_get xs k ≡ Some x → AllZip R xs ys → S x y
      → ((z : X) (w : Y) → same_key (key x) (key z) ≡ false → R z w → S z w) → AllZip S xs (slice_set ys k y)
  zip-set key [] ys s k x y e h here other = absurd cc
  zip-set key (v ∷ vs) [] s k x y e h here other = absurd h
  zip-set key (v ∷ vs) (w ∷ ws) s zero x y e h here other = (
    subst (λ z. S z y) (sym (some-same v x e)) here,
    zip-weaker (λ z. same_key (key v) (key z) ≡ false) (λ z u d r. other z u (subst (λ t. same_key (key t) (key z) ≡ false) (some-same v x e) d) r) vs ws (After-differ key (key v) vs s.0) h.1,
  )
  zip-set key (v ∷ vs) (w ∷ ws) s (suc k) x y e h here other = (
    other v w (same-flip (key x) (key v) ∙ All-at (λ z. same_key (key v) (key z) ≡ false) vs k x (After-differ key (key v) vs s.0) e) h.0,
    zip-set key vs ws s.1 k x y e h.1 here other,
  )
