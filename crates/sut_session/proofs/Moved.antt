-- Where a number settles after the slopes of its cost moved along the numbers.
use Rattle.std.proofs.Common.{◌≡◌, ℕ, zero, suc, ◌≤◌, ℤ, pos, negsuc, ◌+ℤ◌, ◌-ℤ◌, ◌*ℤ◌, neg_ℤ, ◌≤ℤ◌, ◌<ℤ◌, unsigned_abs, ◌⊎◌, inl, inr, refl, sym, ◌∙◌, subst, arith}
use Rattle.std.specs.Int.Signed.{≤ℤ_refl}
use Rattle.std.proofs.Math.IntN.{*ℤ_comm}
use Rattle.std.proofs.lemmas.Int.{ints}
use Rattle.flow_cost.specs.Integers.{abs_at_most, abs_low, abs_high, mul-one}
use Rattle.flow_cost.specs.Settle.{IsNearestSettled, IsPlace, IsSettled}
use Rattle.flow_cost.proofs.Convex.{≤ℤ_trans}

order : (a b : ℤ) → (a ≤ℤ b) ⊎ (b <ℤ a)
order a b = by (b -ℤ a) refl
  where
    by : (d : ℤ) → b -ℤ a ≡ d → (a ≤ℤ b) ⊎ (b <ℤ a)
    by (pos n) e = inl (omega (arith, ints))
    by (negsuc n) e = inr (omega (arith, ints))

-- the slope at a number is what one more costs there
abbrev pub Grows : (ℤ → ℤ) → Type 0
Grows s = (z : ℤ) → s z ≤ℤ s (z +ℤ pos 1)

grows-steps : (s : ℤ → ℤ) → Grows s → (n : ℕ) (a b : ℤ) → b ≡ a +ℤ pos n → s a ≤ℤ s b
grows-steps s g zero a b e = let f : b ≡ a = omega (arith, ints) in rw f (≤ℤ_refl (s a))
grows-steps s g (suc n) a b e =
    let f : b ≡ (a +ℤ pos n) +ℤ pos 1 = omega (arith, ints) in
    rw f (≤ℤ_trans _ _ _ (grows-steps s g n a (a +ℤ pos n) refl) (g (a +ℤ pos n)))

grows : (s : ℤ → ℤ) → Grows s → (a b : ℤ) → a ≤ℤ b → s a ≤ℤ s b
grows s g a b h = by (b -ℤ a) refl
  where
    by : (d : ℤ) → b -ℤ a ≡ d → s a ≤ℤ s b
    by (pos n) e = grows-steps s g n a b (omega (arith, ints))
    by (negsuc n) e = absurd (omega (arith, ints))

-- no unit up or down pays
pub record Rests (s : ℤ → ℤ) (lo hi p z : ℤ) : Type 0 where
  pub low : lo ≤ℤ z
  pub high : z ≤ℤ hi
  pub up : z <ℤ hi → p ≤ℤ s z
  pub down : lo <ℤ z → s (z -ℤ pos 1) ≤ℤ p

-- a number that rests, at most n away from x, and none that rests is nearer
pub record RestsNear (s : ℤ → ℤ) (lo hi p x : ℤ) (n : ℕ) : Type 0 where
  pub y : ℤ
  pub rests : Rests s lo hi p y
  pub above : (x -ℤ pos n) ≤ℤ y
  pub below : y ≤ℤ (x +ℤ pos n)
  pub nearest : (z : ℤ) → Rests s lo hi p z → (k : ℕ) → (x -ℤ pos k) ≤ℤ z → z ≤ℤ (x +ℤ pos k) → ((x -ℤ pos k) ≤ℤ y) × (y ≤ℤ (x +ℤ pos k))

-- a number that rests is the nearest to itself
abbrev pub rests-here : (s : ℤ → ℤ) (lo hi p x : ℤ) → Rests s lo hi p x → RestsNear s lo hi p x 0
rests-here s lo hi p x r = record {
  y = x;
  rests = r;
  above = omega (arith, ints);
  below = omega (arith, ints);
  nearest = λ z q k a b. (omega (arith, ints), omega (arith, ints));
}

module _ (s : ℤ → ℤ) (g : Grows s) (lo hi p x : ℤ) (low : lo ≤ℤ x) (high : x ≤ℤ hi) (down : lo <ℤ x → s (x -ℤ pos 1) ≤ℤ p) (n : ℕ) (reach : (x +ℤ pos n) <ℤ hi → p ≤ℤ s (x +ℤ pos n)) where
  stopped : (z : ℤ) → x ≤ℤ z → z ≤ℤ hi → z ≤ℤ (x +ℤ pos n) → ((w : ℤ) → x ≤ℤ w → w <ℤ z → s w <ℤ p) → (z <ℤ hi → p ≤ℤ s z) → RestsNear s lo hi p x n
  stopped z l h c under stop = record {
    y = z;
    rests = record {
      low = ≤ℤ_trans _ _ _ low l;
      high = h;
      up = stop;
      down = λ above. elim (order z x) [
        | inl k ↦ let e : z ≡ x = omega (arith, ints) in subst (λ y. lo <ℤ y → s (y -ℤ pos 1) ≤ℤ p) (sym e) down above
        | inr k ↦ let m = under (z -ℤ pos 1) (omega (arith, ints)) (omega (arith, ints)) in omega (arith, ints, m)
      ];
    };
    above = omega (arith, ints);
    below = c;
    nearest = λ w r k a b. (
      omega (arith, ints),
      elim (order z (x +ℤ pos k)) [
        | inl m ↦ m
        | inr m ↦ elim (order x w) [
          | inl q ↦ (let u : s w <ℤ p = under w q (omega (arith, ints)) in let v : p ≤ℤ s w = r.up (omega (arith, ints)) in absurd (omega (arith, ints, u, v)))
          | inr q ↦ (let u : s x <ℤ p = under x (omega (arith, ints)) (omega (arith, ints)) in let v : p ≤ℤ s w = r.up (omega (arith, ints)) in let t = grows s g w x (omega (arith, ints)) in absurd (omega (arith, ints, u, v, t)))
        ]
      ],
    );
  }

  climb : (k : ℕ) (z : ℤ) → z +ℤ pos k ≡ x +ℤ pos n → x ≤ℤ z → z ≤ℤ hi → ((w : ℤ) → x ≤ℤ w → w <ℤ z → s w <ℤ p) → RestsNear s lo hi p x n
  climb zero z e l h under =
      let f : z ≡ x +ℤ pos n = omega (arith, ints) in
      stopped z l h (omega (arith, ints)) under (subst (λ y. y <ℤ hi → p ≤ℤ s y) (sym f) reach)
  climb (suc k) z e l h under = elim (order p (s z)) [
    | inl m ↦ stopped z l h (omega (arith, ints)) under (λ _. m)
    | inr m ↦ elim (order hi z) [
      | inl q ↦ stopped z l h (omega (arith, ints)) under (λ r. absurd (omega (arith, ints)))
      | inr q ↦ climb k (z +ℤ pos 1) (omega (arith, ints)) (omega (arith, ints)) (omega (arith, ints)) (λ w a b. elim (order z w) [
        | inl t ↦ let i : w ≡ z = omega (arith, ints) in subst (λ y. s y <ℤ p) (sym i) m
        | inr t ↦ under w a t
      ])
    ]
  ]

  pub rests-above : RestsNear s lo hi p x n
  rests-above = climb n x refl (≤ℤ_refl x) high (λ w a b. absurd (omega (arith, ints)))

-- ---- the same downward, by the numbers' opposites

abbrev turned : (ℤ → ℤ) → ℤ → ℤ
turned s z = neg_ℤ (s (neg_ℤ z -ℤ pos 1))

opposite : (a b : ℤ) → a ≤ℤ b → neg_ℤ b ≤ℤ neg_ℤ a
opposite a b h = omega (arith, ints)

back : (a b : ℤ) → neg_ℤ b ≤ℤ neg_ℤ a → a ≤ℤ b
back a b h = omega (arith, ints)

turned-grows : (s : ℤ → ℤ) → Grows s → Grows (turned s)
turned-grows s g z =
    let e : (neg_ℤ (z +ℤ pos 1) -ℤ pos 1) +ℤ pos 1 ≡ neg_ℤ z -ℤ pos 1 = omega (arith, ints) in
    opposite (s (neg_ℤ (z +ℤ pos 1) -ℤ pos 1)) (s (neg_ℤ z -ℤ pos 1)) (subst (λ y. s (neg_ℤ (z +ℤ pos 1) -ℤ pos 1) ≤ℤ s y) e (g (neg_ℤ (z +ℤ pos 1) -ℤ pos 1)))

rests-turned : (s : ℤ → ℤ) (lo hi p z : ℤ) → Rests s lo hi p z → Rests (turned s) (neg_ℤ hi) (neg_ℤ lo) (neg_ℤ p) (neg_ℤ z)
rests-turned s lo hi p z r = record {
  low = opposite z hi r.high;
  high = opposite lo z r.low;
  up = λ h.
      let e : neg_ℤ (neg_ℤ z) -ℤ pos 1 ≡ z -ℤ pos 1 = omega (arith, ints) in
      opposite (s (neg_ℤ (neg_ℤ z) -ℤ pos 1)) p (subst (λ y. s y ≤ℤ p) (sym e) (r.down (omega (arith, ints))));
  down = λ h.
      let e : neg_ℤ (neg_ℤ z -ℤ pos 1) -ℤ pos 1 ≡ z = omega (arith, ints) in
      opposite p (s (neg_ℤ (neg_ℤ z -ℤ pos 1) -ℤ pos 1)) (subst (λ y. p ≤ℤ s y) (sym e) (r.up (omega (arith, ints))));
}

rests-back : (s : ℤ → ℤ) (lo hi p z : ℤ) → Rests (turned s) (neg_ℤ hi) (neg_ℤ lo) (neg_ℤ p) z → Rests s lo hi p (neg_ℤ z)
rests-back s lo hi p z r = record {
  low = omega (arith, ints, r.high);
  high = omega (arith, ints, r.low);
  up = λ h.
      let e : neg_ℤ (z -ℤ pos 1) -ℤ pos 1 ≡ neg_ℤ z = omega (arith, ints) in
      subst (λ y. p ≤ℤ s y) e (back p (s (neg_ℤ (z -ℤ pos 1) -ℤ pos 1)) (r.down (omega (arith, ints))));
  down = λ h. back (s (neg_ℤ z -ℤ pos 1)) p (r.up (omega (arith, ints)));
}

module _ (s : ℤ → ℤ) (g : Grows s) (lo hi p x : ℤ) (low : lo ≤ℤ x) (high : x ≤ℤ hi) (up : x <ℤ hi → p ≤ℤ s x) (n : ℕ) (reach : lo <ℤ (x -ℤ pos n) → s ((x -ℤ pos n) -ℤ pos 1) ≤ℤ p) where
  below-turned : RestsNear (turned s) (neg_ℤ hi) (neg_ℤ lo) (neg_ℤ p) (neg_ℤ x) n
  below-turned = rests-above (turned s) (turned-grows s g) (neg_ℤ hi) (neg_ℤ lo) (neg_ℤ p) (neg_ℤ x) (opposite x hi high) (opposite lo x low)
      (λ h. let e : neg_ℤ (neg_ℤ x -ℤ pos 1) -ℤ pos 1 ≡ x = omega (arith, ints) in
      opposite p (s (neg_ℤ (neg_ℤ x -ℤ pos 1) -ℤ pos 1)) (subst (λ y. p ≤ℤ s y) (sym e) (up (omega (arith, ints)))))
      n
      (λ h. let e : neg_ℤ (neg_ℤ x +ℤ pos n) -ℤ pos 1 ≡ (x -ℤ pos n) -ℤ pos 1 = omega (arith, ints) in
      opposite (s (neg_ℤ (neg_ℤ x +ℤ pos n) -ℤ pos 1)) p (subst (λ y. s y ≤ℤ p) (sym e) (reach (omega (arith, ints)))))

  pub rests-below : RestsNear s lo hi p x n
  rests-below =
      let r = below-turned in
      record {
        y = neg_ℤ r.y;
        rests = rests-back s lo hi p r.y r.rests;
        above = omega (arith, ints, r.below);
        below = omega (arith, ints, r.above);
        nearest = λ z q k a b.
            let m = r.nearest (neg_ℤ z) (rests-turned s lo hi p z q) k (omega (arith, ints)) (omega (arith, ints)) in
            (omega (arith, ints, m.1), omega (arith, ints, m.0));
      }

-- ---- slopes that moved by e

-- a number that rested goes at most as far as the slopes did
pub rests-moved : (s t : ℤ → ℤ) → Grows s → (e : ℤ) → ((z : ℤ) → t z ≡ s (z -ℤ e)) → (lo hi p x : ℤ) → Rests s lo hi p x → RestsNear t lo hi p x (unsigned_abs e)
rests-moved s t g e moved lo hi p x r = by e refl
  where
    t-grows : Grows t
    t-grows z =
        let i : (z -ℤ e) +ℤ pos 1 ≡ (z +ℤ pos 1) -ℤ e = omega (arith, ints) in
        rw (moved z, moved (z +ℤ pos 1), ← i) (g (z -ℤ e))

    by : (d : ℤ) → e ≡ d → RestsNear t lo hi p x (unsigned_abs d)
    by (pos n) is = rests-above t t-grows lo hi p x r.low r.high
        (λ h. rw (moved (x -ℤ pos 1)) (≤ℤ_trans _ _ _ (grows s g ((x -ℤ pos 1) -ℤ e) (x -ℤ pos 1) (omega (arith, ints))) (r.down h)))
        n
        (λ h. let i : (x +ℤ pos n) -ℤ e ≡ x = omega (arith, ints) in rw (moved (x +ℤ pos n), i) (r.up (omega (arith, ints))))
    by (negsuc n) is = rests-below t t-grows lo hi p x r.low r.high
        (λ h. rw (moved x) (≤ℤ_trans _ _ _ (r.up h) (grows s g x (x -ℤ e) (omega (arith, ints)))))
        (suc n)
        (λ h. let i : ((x -ℤ pos (suc n)) -ℤ pos 1) -ℤ e ≡ x -ℤ pos 1 = omega (arith, ints) in rw (moved ((x -ℤ pos (suc n)) -ℤ pos 1), i) (r.down (omega (arith, ints))))

-- ---- where a cost has these slopes

times-one : (p : ℤ) → pos 1 *ℤ p ≡ p
times-one p = *ℤ_comm (pos 1) p ∙ mul-one p

-- a cost with these slopes within the bounds settles there
pub settles : (value s : ℤ → ℤ) (lo hi p x : ℤ) (n : ℕ) → ((z : ℤ) → lo ≤ℤ z → z <ℤ hi → value (z +ℤ pos 1) -ℤ value z ≡ s z) → (r : RestsNear s lo hi p x n)
    → IsNearestSettled value x lo hi (pos 1) p r.y × (unsigned_abs (r.y -ℤ x) ≤ n)
settles value s lo hi p x n slopes r = (
  record {
    place = record { by_steps = (r.y -ℤ x, let e = mul-one (r.y -ℤ x) in omega (arith, ints, e)); above = r.rests.low; below = r.rests.high };
    settled = record {
      up = λ h. let e = slopes r.y r.rests.low (omega (arith, ints)) in let f = times-one p in let u = r.rests.up (omega (arith, ints)) in omega (arith, ints, e, f, u);
      down = λ h.
          let i : (r.y -ℤ pos 1) +ℤ pos 1 ≡ r.y = omega (arith, ints) in
          let high = r.rests.high in
          let e : value r.y -ℤ value (r.y -ℤ pos 1) ≡ s (r.y -ℤ pos 1) = subst (λ z. value z -ℤ value (r.y -ℤ pos 1) ≡ s (r.y -ℤ pos 1)) i (slopes (r.y -ℤ pos 1) h (omega (arith, ints))) in
          let f = times-one p in let d = r.rests.down (omega (arith, ints)) in omega (arith, ints, e, f, d);
    };
    nearest = λ z place q.
        let k = unsigned_abs (z -ℤ x) in
        let l = abs_low (z -ℤ x) k (omega arith) in
        let h = abs_high (z -ℤ x) k (omega arith) in
        let m = r.nearest z (rests z place q) k (omega (arith, ints, l)) (omega (arith, ints, h)) in
        abs_at_most (r.y -ℤ x) k (omega (arith, ints, m.0)) (omega (arith, ints, m.1));
  },
  let a = r.above in let b = r.below in abs_at_most (r.y -ℤ x) n (omega (arith, ints)) (omega (arith, ints)),
)
  where
    rests : (z : ℤ) → IsPlace x lo hi (pos 1) z → IsSettled value lo hi (pos 1) p z → Rests s lo hi p z
    rests z place q = record {
      low = place.above;
      high = place.below;
      up = λ h. let e = slopes z place.above h in let f = times-one p in let u = q.up (omega (arith, ints)) in omega (arith, ints, e, f, u);
      down = λ h.
          let i : (z -ℤ pos 1) +ℤ pos 1 ≡ z = omega (arith, ints) in
          let high = place.below in
          let e : value z -ℤ value (z -ℤ pos 1) ≡ s (z -ℤ pos 1) = subst (λ y. value y -ℤ value (z -ℤ pos 1) ≡ s (z -ℤ pos 1)) i (slopes (z -ℤ pos 1) (omega (arith, ints)) (omega (arith, ints))) in
          let f = times-one p in let d = q.down (omega (arith, ints)) in omega (arith, ints, e, f, d);
    }
