-- A set that is closed off contradicts.
use Rattle.std.proofs.Common.{◌≡◌, ℕ, zero, suc, ◌<◌, Bool, true, false, not, ◌&&◌, if◌then◌else◌, List, [], ◌∷◌, length, slice_get, Some, inl, inr, refl, ap, subst, ◌∙◌, arith, ℤ, pos, negsuc, ◌+ℤ◌, ◌-ℤ◌, ◌*ℤ◌, neg_ℤ, ◌≤ℤ◌}
use Rattle.std.specs.List.{AllZip}
use Rattle.std.proofs.Math.IntN.{*ℤ_comm, zero-*ℤ}
use Rattle.std.proofs.lemmas.Int.{ints, by_lt_z}
use Rattle.std.proofs.lemmas.Bool.{cases_eq, cases_Bool}
use Rattle.std.proofs.lemmas.List.Elements.{recursion_from_All}
use Rattle.flow_cost.specs.Integers.{mul-one, mul-neg}
use Rattle.flow_graph.specs.declared.arcs.Arc.{Arc}
use Rattle.flow_graph.specs.Circulation.{excess}
use Rattle.flow_graph.specs.Contradiction.{in_set, entering_low, leaving_high, Contradicts}
use Rattle.flow_graph.specs.Network.{IsArcAmong}
use Rattle.flow_graph.proofs.Bounded.{flow_at}
use Rattle.flow_check.proofs.Sums.{sum_below, carried, carried-is}
use Rattle.flow_residual.specs.Flows.{Flow, IsFlowOf}
use Rattle.flow_solve.specs.Progress.{IsClosedOff}
use Rattle.flow_solve.specs.Scales.{IsShut}
use Rattle.flow_solve.proofs.Shut.{closed_is_shut, source_inside}

-- 1 for a member, 0 for another
abbrev weight_of : Bool → ℤ
weight_of b = if b then pos 1 else pos 0

times_one : (x : ℤ) → pos 1 *ℤ x ≡ x
times_one x = *ℤ_comm (pos 1) x ∙ mul-one x

times_minus_one : (x : ℤ) → negsuc 0 *ℤ x ≡ neg_ℤ x
times_minus_one x = *ℤ_comm (negsuc 0) x ∙ mul-neg x (pos 1) ∙ ap neg_ℤ (mul-one x)

-- an arc that leaves the set is full, and one that enters it has its least
record IsPressed (set : List Bool) (arc : Arc) (x : ℤ) : Type 0 where
  leaving : in_set set arc.tail ≡ true → in_set set arc.head ≡ false → x ≡ arc.hi
  entering : in_set set arc.head ≡ true → in_set set arc.tail ≡ false → x ≡ arc.lo

one_pressed : (head tail : Bool) (lo hi x : ℤ) → (tail ≡ true → head ≡ false → x ≡ hi) → (head ≡ true → tail ≡ false → x ≡ lo) →
    (weight_of head -ℤ weight_of tail) *ℤ x ≡ (if head && not tail then lo else pos 0) -ℤ (if tail && not head then hi else pos 0)
one_pressed true true lo hi x l e = rw (zero-*ℤ x) (omega (arith, ints))
one_pressed true false lo hi x l e = rw (times_one x) (let q = e refl refl in omega (arith, ints, q))
one_pressed false true lo hi x l e = rw (times_minus_one x) (let q = l refl refl in omega (arith, ints, q))
one_pressed false false lo hi x l e = rw (zero-*ℤ x) (omega (arith, ints))

joined : (c e l c' e' l' : ℤ) → c ≡ e -ℤ l → c' ≡ e' -ℤ l' → c +ℤ c' ≡ (e +ℤ e') -ℤ (l +ℤ l')
joined c e l c' e' l' p q = omega (arith, ints, p, q)

all_pressed : (set : List Bool) (arcs : List Arc) (xs : List ℤ) → AllZip (IsPressed set) arcs xs → carried (λ k. weight_of (in_set set k)) arcs xs ≡ entering_low set arcs -ℤ leaving_high set arcs
all_pressed set [] [] h = refl
all_pressed set [] (x ∷ xs) h = elim h [ ]
all_pressed set (b ∷ bs) [] h = elim h [ ]
all_pressed set (b ∷ bs) (x ∷ xs) h = joined _ _ _ _ (entering_low set bs) (leaving_high set bs)
    (one_pressed (in_set set b.head) (in_set set b.tail) b.lo b.hi x h.0.leaving h.0.entering) (all_pressed set bs xs h.1)

pub zip_each : {X Y : Type 0} (R : X → Y → Type 0) (xs : List X) (ys : List Y) → length ys ≡ length xs → ((a : ℕ) (x : X) (y : Y) → slice_get xs a ≡ Some x → slice_get ys a ≡ Some y → R x y) → AllZip R xs ys
zip_each R [] [] e h = tt
zip_each R [] (y ∷ ys) e h = absurd (omega (arith, e))
zip_each R (x ∷ xs) [] e h = absurd (omega (arith, e))
zip_each R (x ∷ xs) (y ∷ ys) e h = (h zero x y refl refl, zip_each R xs ys (omega (arith, e)) (λ a b c k l. h (suc a) b c k l))

sum_low : (f : ℕ → ℤ) (n : ℕ) → ((k : ℕ) → k < n → pos 0 ≤ℤ f k) → pos 0 ≤ℤ sum_below f n
sum_low f zero h = omega (arith, ints)
sum_low f (suc n) h = let k = sum_low f n (λ j l. h j (omega (arith, l))) in let m = h n (omega arith) in omega (arith, ints, k, m)

sum_above : (f : ℕ → ℤ) (n a : ℕ) → ((k : ℕ) → k < n → pos 0 ≤ℤ f k) → a < n → pos 1 ≤ℤ f a → pos 1 ≤ℤ sum_below f n
sum_above f zero a h l e = absurd (omega (arith, l))
sum_above f (suc n) a h l e = elim (cases_eq a n) [
  | inl q ↦ (let k = sum_low f n (λ j m. h j (omega (arith, m))) in let m : pos 1 ≤ℤ f n = subst (λ z. pos 1 ≤ℤ f z) q e in omega (arith, ints, k, m))
  | inr q ↦ (let k = sum_above f n a (λ j m. h j (omega (arith, m))) (omega (arith, l, q)) e in let m = h n (omega arith) in omega (arith, ints, k, m))
]

module _ {N A C : Type 0} (node_eq : N → N → Bool) (arc_eq : A → A → Bool) (span : C → ℤ) (s : Flow N A C) (set : List Bool) (source : ℕ) (kept : IsFlowOf node_eq arc_eq span s) (c : IsClosedOff (pos 1) s source set) where
  shut : IsShut (pos 1) s (in_set set)
  shut = closed_is_shut (pos 1) s set source kept.network.arcs_fit c

  pressed : (a : ℕ) (arc : Arc) (x : ℤ) → slice_get s.graph.arcs a ≡ Some arc → slice_get s.flows a ≡ Some x → IsPressed set arc x
  pressed a arc x ea ex =
      let f = flow_at s.graph.arcs s.flows a arc x kept.bounded ea ex in
      record {
        leaving = λ t h. let l = shut.leaving a arc x ea ex t h in omega (arith, ints, l, f.high);
        entering = λ h t. let l = shut.entering a arc x ea ex h t in omega (arith, ints, l, f.low);
      }

  member_excess : (n : ℕ) → n < length s.graph.nodes → pos 0 ≤ℤ (weight_of (in_set set n) *ℤ excess s.graph.arcs s.flows n)
  member_excess n l = elim (cases_Bool (in_set set n)) [
    | inl e ↦ rw (e, times_one (excess s.graph.arcs s.flows n)) (by_lt_z (excess s.graph.arcs s.flows n) (pos 0) (λ m. absurd (shut.no_sink n l e (omega (arith, ints, m)))) (λ m. m))
    | inr e ↦ rw (e, zero-*ℤ (excess s.graph.arcs s.flows n)) (omega (arith, ints))
  ]

  source_excess : pos 1 ≤ℤ (weight_of (in_set set source) *ℤ excess s.graph.arcs s.flows source)
  source_excess = rw (source_inside (pos 1) s set source kept.network.arcs_fit c, times_one (excess s.graph.arcs s.flows source)) c.excess

  pub closed_off_contradicts : Contradicts s.graph.arcs set
  closed_off_contradicts =
      let p = all_pressed set s.graph.arcs s.flows (zip_each (IsPressed set) s.graph.arcs s.flows kept.counted pressed) in
      let q = carried-is (λ k. weight_of (in_set set k)) (length s.graph.nodes) s.graph.arcs s.flows (recursion_from_All (IsArcAmong (length s.graph.nodes)) s.graph.arcs kept.network.arcs_fit) in
      let r = sum_above (λ k. weight_of (in_set set k) *ℤ excess s.graph.arcs s.flows k) (length s.graph.nodes) source member_excess c.there source_excess in
      record { gap = omega (arith, ints, p, q, r) }
