-- Where the moves that pay end is the nearest place from which neither step pays.
use Rattle.std.proofs.Common.{◌≡◌, ℕ, zero, suc, ◌+◌, ◌*◌, ◌<◌, ◌≤◌, ℤ, pos, negsuc, ◌+ℤ◌, ◌-ℤ◌, ◌*ℤ◌, neg_ℤ, ◌≤ℤ◌, ◌<ℤ◌, unsigned_abs, inl, inr, refl, arith, ap, sym, ◌∙◌}
use Rattle.std.proofs.Math.Nat.{mul-le-mul_right}
use Rattle.std.proofs.Math.IntN.{*ℤ_comm, zero-*ℤ}
use Rattle.std.proofs.lemmas.Int.{ints}
use Rattle.std.proofs.lemmas.Bool.{cases_lt}
use Rattle.flow_cost.specs.Cost.{IsWithin, IsLawful}
use Rattle.flow_cost.specs.Integers.{mul-neg}
use Rattle.flow_cost.specs.Settle.{place_at, Pays, Stops, IsPlace, IsSettled, IsNearestSettled}
use Rattle.flow_cost.proofs.Convex.{≤ℤ_trans, between, chord_mono, next_place}

-- a step that pays is no step that stops
clash : (d e r : ℤ) → d <ℤ r → d ≡ e → r ≤ℤ e → ⊥
clash d e r h k l = omega (arith, ints)

clash_along : (d e r : ℤ) → d <ℤ r → e ≤ℤ d → r ≤ℤ e → ⊥
clash_along d e r h k l = omega (arith, ints)

-- the same for a step down, which pays by the negative amount
clash_down : (va vb r : ℤ) → (va -ℤ vb) <ℤ neg_ℤ r → (vb -ℤ va) ≤ℤ r → ⊥
clash_down va vb r h l = omega (arith, ints)

far : (x : ℤ) (m : ℕ) → unsigned_abs ((x +ℤ pos m) -ℤ x) ≡ m
far x m = ap unsigned_abs (let e : (x +ℤ pos m) -ℤ x ≡ pos m = omega (arith, ints) in e)

lt_le : (a b : ℤ) → a <ℤ b → a ≤ℤ b
lt_le a b h = omega (arith, ints)

neg_times : (s : ℕ) (slope : ℤ) → negsuc s *ℤ slope ≡ neg_ℤ (pos (suc s) *ℤ slope)
neg_times s slope = *ℤ_comm (negsuc s) slope ∙ mul-neg slope (pos (suc s)) ∙ ap neg_ℤ (*ℤ_comm slope (pos (suc s)))

-- what a step down that pays says of the step up
down_pays : (va vb r q : ℤ) → (va -ℤ vb) <ℤ q → q ≡ neg_ℤ r → r ≤ℤ (vb -ℤ va)
down_pays va vb r q h e = omega (arith, ints)

down_stops : (va vb r q : ℤ) → q ≤ℤ (va -ℤ vb) → q ≡ neg_ℤ r → (vb -ℤ va) ≤ℤ r
down_stops va vb r q h e = omega (arith, ints)

down_clash : (va vb r q : ℤ) → (va -ℤ vb) <ℤ q → q ≡ neg_ℤ r → (vb -ℤ va) ≤ℤ r → ⊥
down_clash va vb r q h e l = omega (arith, ints)

far_below : (x : ℤ) (m : ℕ) → unsigned_abs ((x -ℤ pos m) -ℤ x) ≡ m
far_below x zero = ap unsigned_abs (let e : (x -ℤ pos 0) -ℤ x ≡ pos 0 = omega (arith, ints) in e)
far_below x (suc m) = ap unsigned_abs (let e : (x -ℤ pos (suc m)) -ℤ x ≡ negsuc m = omega (arith, ints) in e)

module _ (value : ℤ → ℤ) (span : ℤ) (law : IsLawful value span) (x lo hi slope : ℤ) (s : ℕ)
    (lx : lo ≤ℤ x) (xh : x ≤ℤ hi) (wl : IsWithin span lo) (wh : IsWithin span hi) where
  -- no nearer place settles, where moves up paid
  nearest_above : (u : ℕ) (z kz : ℤ) → z ≡ x +ℤ kz *ℤ pos (suc s) → (x +ℤ pos (suc u * suc s)) ≤ℤ hi →
      ((k : ℕ) → k < suc u → Pays value (pos (suc s)) slope (place_at x (pos (suc s)) k)) →
      lo ≤ℤ z → z ≤ℤ hi → IsSettled value lo hi (pos (suc s)) slope z → suc u * suc s ≤ unsigned_abs (z -ℤ x)
  nearest_above u z (pos j) e top pay lz zh t = elim (cases_lt j (suc u)) [
    | inl m ↦ (let reach : suc j * suc s ≤ suc u * suc s = mul-le-mul_right (suc s) m in
        absurd (clash _ _ (pos (suc s) *ℤ slope) (pay j m).less (ap (λ w. value (w +ℤ pos (suc s)) -ℤ value w) (sym e)) (t.up (omega (arith, ints)))))
    | inr m ↦ (let reach : suc u * suc s ≤ j * suc s = mul-le-mul_right (suc s) m in rw (e, far x (j * suc s)) reach)
  ]
  nearest_above u z (negsuc j) e top pay lz zh t =
      let one : suc s ≤ suc u * suc s = omega arith in
      let below : x ≡ z +ℤ pos (suc j * suc s) = omega (arith, ints) in
      let first : place_at x (pos (suc s)) 0 ≡ x = omega (arith, ints) in
      absurd (clash_along (value (x +ℤ pos (suc s)) -ℤ value x) (value (z +ℤ pos (suc s)) -ℤ value z) (pos (suc s) *ℤ slope)
      (rw first at (pay 0 (omega arith)).less)
      (chord_mono value span law (suc s) (suc j * suc s) z x (z +ℤ pos (suc s)) (x +ℤ pos (suc s)) below refl refl
      (between span lo hi z wl wh lz zh) (between span lo hi (x +ℤ pos (suc s)) wl wh (omega (arith, ints)) (omega (arith, ints))))
      (t.up (omega (arith, ints))))

  -- moves up paid
  pub settled_above : (u above : ℕ) → suc u ≤ above →
      (pos above *ℤ pos (suc s)) ≤ℤ (hi -ℤ x) → (hi -ℤ x) <ℤ (pos (above + 1) *ℤ pos (suc s)) →
      ((k : ℕ) → k < suc u → Pays value (pos (suc s)) slope (place_at x (pos (suc s)) k)) →
      (suc u < above → Stops value (pos (suc s)) slope (place_at x (pos (suc s)) (suc u))) →
      IsNearestSettled value x lo hi (pos (suc s)) slope (place_at x (pos (suc s)) (suc u))
  settled_above u above l fit most pay stops =
      let reach : suc u * suc s ≤ above * suc s = mul-le-mul_right (suc s) l in
      let back : place_at x (pos (suc s)) (suc u) -ℤ pos (suc s) ≡ place_at x (pos (suc s)) u = omega (arith, ints) in
      let on : place_at x (pos (suc s)) u +ℤ pos (suc s) ≡ place_at x (pos (suc s)) (suc u) = omega (arith, ints) in
      record {
        place = record { by_steps = (pos (suc u), refl); above = omega (arith, ints, lx, reach); below = omega (arith, ints, reach, fit) };
        settled = record {
          up = λ h. elim (cases_lt (suc u) above) [
            | inl m ↦ (stops m).more
            | inr m ↦ (let e : suc u ≡ above = omega arith in absurd (omega (arith, ints, most, rw e at h, next_place x (pos (suc s)) above)))
          ];
          down = λ h. rw back (lt_le _ _ (rw on at (pay u (omega arith)).less));
        };
        nearest = λ z p t. rw (far x (suc u * suc s)) (nearest_above u z p.by_steps.0 p.by_steps.1 (omega (arith, ints, reach, fit)) pay p.above p.below t);
      }

  -- the place that many steps down
  down_place : (k : ℕ) → place_at x (negsuc s) k ≡ x -ℤ pos (k * suc s)
  down_place k = refl

  -- no nearer place settles, where moves down paid
  nearest_below : (d : ℕ) (z kz : ℤ) → z ≡ x +ℤ kz *ℤ pos (suc s) → lo ≤ℤ (x -ℤ pos (suc d * suc s)) →
      ((k : ℕ) → k < suc d → Pays value (negsuc s) slope (place_at x (negsuc s) k)) →
      lo ≤ℤ z → z ≤ℤ hi → IsSettled value lo hi (pos (suc s)) slope z → suc d * suc s ≤ unsigned_abs (z -ℤ x)
  nearest_below d z (negsuc j) e bottom pay lz zh t = elim (cases_lt (suc j) (suc d)) [
    | inl m ↦ (let reach : suc (suc j) * suc s ≤ suc d * suc s = mul-le-mul_right (suc s) m in
        let zj : z ≡ place_at x (negsuc s) (suc j) = e in
        absurd (down_clash (value (z +ℤ negsuc s)) (value z) (pos (suc s) *ℤ slope) (negsuc s *ℤ slope)
        (rw (← zj) at (pay (suc j) m).less) (neg_times s slope) (t.down (omega (arith, ints)))))
    | inr m ↦ (let reach : suc d * suc s ≤ suc j * suc s = mul-le-mul_right (suc s) m in rw (e, far_below x (suc j * suc s)) reach)
  ]
  nearest_below d z (pos j) e bottom pay lz zh t =
      let one : suc s ≤ suc d * suc s = omega arith in
      let first : place_at x (negsuc s) 0 ≡ x = omega (arith, ints) in
      absurd (down_clash (value (x +ℤ negsuc s)) (value x) (pos (suc s) *ℤ slope) (negsuc s *ℤ slope)
      (rw first at (pay 0 (omega arith)).less) (neg_times s slope)
      (≤ℤ_trans _ _ _
      (chord_mono value span law (suc s) (j * suc s) (x +ℤ negsuc s) (z +ℤ negsuc s) x z (omega (arith, ints)) (omega (arith, ints)) (omega (arith, ints))
      (between span lo hi (x +ℤ negsuc s) wl wh (omega (arith, ints)) (omega (arith, ints))) (between span lo hi z wl wh lz zh))
      (t.down (omega (arith, ints)))))

  -- no move up paid, and these moves down did
  pub settled_below : (d below : ℕ) → d ≤ below →
      (pos below *ℤ pos (suc s)) ≤ℤ (x -ℤ lo) → (x -ℤ lo) <ℤ (pos (below + 1) *ℤ pos (suc s)) →
      ((k : ℕ) → k < d → Pays value (negsuc s) slope (place_at x (negsuc s) k)) →
      (d < below → Stops value (negsuc s) slope (place_at x (negsuc s) d)) →
      ((x +ℤ pos (suc s)) ≤ℤ hi → (pos (suc s) *ℤ slope) ≤ℤ (value (x +ℤ pos (suc s)) -ℤ value x)) →
      IsNearestSettled value x lo hi (pos (suc s)) slope (place_at x (negsuc s) d)
  settled_below d below l fit most pay stops top =
      let reach : d * suc s ≤ below * suc s = mul-le-mul_right (suc s) l in
      let steps : neg_ℤ (pos d) *ℤ pos (suc s) ≡ neg_ℤ (pos (suc s * d)) = *ℤ_comm (neg_ℤ (pos d)) (pos (suc s)) ∙ mul-neg (pos (suc s)) (pos d) in
      record {
        place = record { by_steps = (neg_ℤ (pos d), omega (arith, ints, steps)); above = omega (arith, ints, reach, fit); below = omega (arith, ints, reach, xh) };
        settled = record {
          up = up_of d pay;
          down = λ h. elim (cases_lt d below) [
            | inl m ↦ down_stops (value (place_at x (negsuc s) d +ℤ negsuc s)) (value (place_at x (negsuc s) d)) (pos (suc s) *ℤ slope) (negsuc s *ℤ slope) (stops m).more (neg_times s slope)
            | inr m ↦ (let e : d ≡ below = omega arith in absurd (omega (arith, ints, most, rw e at h)))
          ];
        };
        nearest = λ z p t. rw (far_below x (d * suc s)) (near_of d reach pay z p t);
      }
    where
      up_of : (d : ℕ) → ((k : ℕ) → k < d → Pays value (negsuc s) slope (place_at x (negsuc s) k)) →
          (place_at x (negsuc s) d +ℤ pos (suc s)) ≤ℤ hi → (pos (suc s) *ℤ slope) ≤ℤ (value (place_at x (negsuc s) d +ℤ pos (suc s)) -ℤ value (place_at x (negsuc s) d))
      up_of zero pay h = let e : place_at x (negsuc s) 0 ≡ x = omega (arith, ints) in rw e (top (rw e at h))
      up_of (suc d) pay h =
          let e : place_at x (negsuc s) (suc d) +ℤ pos (suc s) ≡ place_at x (negsuc s) d = omega (arith, ints) in
          let f : place_at x (negsuc s) d +ℤ negsuc s ≡ place_at x (negsuc s) (suc d) = omega (arith, ints) in
          rw e (down_pays (value (place_at x (negsuc s) (suc d))) (value (place_at x (negsuc s) d)) (pos (suc s) *ℤ slope) (negsuc s *ℤ slope) (rw f at (pay d (omega arith)).less) (neg_times s slope))

      near_of : (d : ℕ) → d * suc s ≤ below * suc s → ((k : ℕ) → k < d → Pays value (negsuc s) slope (place_at x (negsuc s) k)) →
          (z : ℤ) → IsPlace x lo hi (pos (suc s)) z → IsSettled value lo hi (pos (suc s)) slope z → d * suc s ≤ unsigned_abs (z -ℤ x)
      near_of zero r pay z p t = omega arith
      near_of (suc d) r pay z p t = nearest_below d z p.by_steps.0 p.by_steps.1 (omega (arith, ints, r, fit)) pay p.above p.below t

-- the three cases, at any step from 1 up: a step up pays
pub nearest_up : (value : ℤ → ℤ) (span : ℤ) → IsLawful value span → (x lo hi step slope : ℤ) (up above : ℕ) →
    lo ≤ℤ x → x ≤ℤ hi → IsWithin span lo → IsWithin span hi → pos 1 ≤ℤ step → (x +ℤ step) ≤ℤ hi → Pays value step slope x → up ≤ above →
    (pos above *ℤ step) ≤ℤ (hi -ℤ x) → (hi -ℤ x) <ℤ (pos (above + 1) *ℤ step) →
    ((k : ℕ) → k < up → Pays value step slope (place_at x step k)) → (up < above → Stops value step slope (place_at x step up)) →
    IsNearestSettled value x lo hi step slope (place_at x step up)
nearest_up value span law x lo hi (pos zero) slope up above lx xh wl wh one room first l fit most pay stops = absurd (omega (arith, ints))
nearest_up value span law x lo hi (negsuc n) slope up above lx xh wl wh one room first l fit most pay stops = absurd (omega (arith, ints))
nearest_up value span law x lo hi (pos (suc s)) slope zero zero lx xh wl wh one room first l fit most pay stops = absurd (omega (arith, ints, room, most))
nearest_up value span law x lo hi (pos (suc s)) slope zero (suc a) lx xh wl wh one room first l fit most pay stops =
    let e : place_at x (pos (suc s)) 0 ≡ x = omega (arith, ints) in
    absurd (clash _ _ (pos (suc s) *ℤ slope) first.less refl (rw e at (stops (omega arith)).more))
nearest_up value span law x lo hi (pos (suc s)) slope (suc u) above lx xh wl wh one room first l fit most pay stops =
    settled_above value span law x lo hi slope s lx xh wl wh u above l fit most pay stops

-- none does, and steps down may
pub nearest_down : (value : ℤ → ℤ) (span : ℤ) → IsLawful value span → (x lo hi step slope : ℤ) (down below : ℕ) →
    lo ≤ℤ x → x ≤ℤ hi → IsWithin span lo → IsWithin span hi → pos 1 ≤ℤ step →
    (lo ≤ℤ (x +ℤ step) → (x +ℤ step) ≤ℤ hi → Stops value step slope x) → down ≤ below →
    (pos below *ℤ step) ≤ℤ (x -ℤ lo) → (x -ℤ lo) <ℤ (pos (below + 1) *ℤ step) →
    ((k : ℕ) → k < down → Pays value (neg_ℤ step) slope (place_at x (neg_ℤ step) k)) → (down < below → Stops value (neg_ℤ step) slope (place_at x (neg_ℤ step) down)) →
    IsNearestSettled value x lo hi step slope (place_at x (neg_ℤ step) down)
nearest_down value span law x lo hi (pos zero) slope down below lx xh wl wh one top l fit most pay stops = absurd (omega (arith, ints))
nearest_down value span law x lo hi (negsuc n) slope down below lx xh wl wh one top l fit most pay stops = absurd (omega (arith, ints))
nearest_down value span law x lo hi (pos (suc s)) slope down below lx xh wl wh one top l fit most pay stops =
    settled_below value span law x lo hi slope s lx xh wl wh down below l fit most pay stops (λ h. (top (omega (arith, ints, lx)) h).more)

-- neither pays
pub nearest_here : (value : ℤ → ℤ) (x lo hi step slope : ℤ) → lo ≤ℤ x → x ≤ℤ hi → pos 1 ≤ℤ step →
    (lo ≤ℤ (x +ℤ step) → (x +ℤ step) ≤ℤ hi → Stops value step slope x) →
    (lo ≤ℤ (x +ℤ neg_ℤ step) → (x +ℤ neg_ℤ step) ≤ℤ hi → Stops value (neg_ℤ step) slope x) →
    IsNearestSettled value x lo hi step slope x
nearest_here value x lo hi step slope lx xh one up down =
    let e : x -ℤ x ≡ pos 0 = omega (arith, ints) in
    let q : neg_ℤ step *ℤ slope ≡ neg_ℤ (step *ℤ slope) = *ℤ_comm (neg_ℤ step) slope ∙ mul-neg slope step ∙ ap neg_ℤ (*ℤ_comm slope step) in
    record {
      place = record { by_steps = (pos 0, omega (arith, ints, zero-*ℤ step)); above = lx; below = xh };
      settled = record {
        up = λ h. (up (omega (arith, ints, lx, one)) h).more;
        down = λ h. down_stops (value (x +ℤ neg_ℤ step)) (value x) (step *ℤ slope) (neg_ℤ step *ℤ slope) (down h (omega (arith, ints, xh, one))).more q;
      };
      nearest = λ z p t. rw e (omega arith);
    }

-- the places that the two calls reach lie within the bounds
pub up_end : (span x lo hi step : ℤ) (k above : ℕ) → lo ≤ℤ x → x ≤ℤ hi → IsWithin span lo → IsWithin span hi → pos 1 ≤ℤ step → k ≤ above →
    (pos above *ℤ step) ≤ℤ (hi -ℤ x) → IsWithin span (place_at x step k)
up_end span x lo hi (pos n) k above lx xh wl wh one l fit =
    let reach : k * n ≤ above * n = mul-le-mul_right n l in
    between span lo hi (place_at x (pos n) k) wl wh (omega (arith, ints)) (omega (arith, ints))
up_end span x lo hi (negsuc n) k above lx xh wl wh one l fit = absurd (omega (arith, ints))

pub down_end : (span x lo hi step : ℤ) (k below : ℕ) → lo ≤ℤ x → x ≤ℤ hi → IsWithin span lo → IsWithin span hi → pos 1 ≤ℤ step → k ≤ below →
    (pos below *ℤ step) ≤ℤ (x -ℤ lo) → IsWithin span (place_at x (neg_ℤ step) k)
down_end span x lo hi (pos zero) k below lx xh wl wh one l fit = absurd (omega (arith, ints))
down_end span x lo hi (pos (suc n)) k below lx xh wl wh one l fit =
    let reach : k * suc n ≤ below * suc n = mul-le-mul_right (suc n) l in
    between span lo hi (place_at x (negsuc n) k) wl wh (omega (arith, ints)) (omega (arith, ints))
down_end span x lo hi (negsuc n) k below lx xh wl wh one l fit = absurd (omega (arith, ints))
