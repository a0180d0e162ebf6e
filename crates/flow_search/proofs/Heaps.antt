-- How a heap follows its keys, and its places their nodes, as the nodes at two places are exchanged.
use Rattle.std.proofs.Common.{◌≡◌, ◌≢◌, ℕ, zero, suc, ◌+◌, ◌<◌, ◌≤◌, List, length, get_or, set, inl, inr, ap, sym, subst, ◌∙◌, arith, ℤ, negsuc, ◌≤ℤ◌, ◌⊎◌, length-set, get_or-set_same, get_or-set_other}
use Rattle.std.specs.List.{SwappedAt}
use Rattle.std.proofs.lemmas.Int.{ints}
use Rattle.std.proofs.lemmas.Bool.{cases_eq}
use Rattle.flow_graph.specs.declared.arcs.NodeId.{NodeId}
use Rattle.flow_residual.specs.Gaps.{node_at}
use Rattle.flow_search.specs.Heap.{parent, key_at, IsHeap, IsHeapButAt, IsHeapButBelow, ArePlaced, IsAmong, IsReordered, Sifts}

parent_less : (i : ℕ) → 0 < i → parent i < i
parent_less i l = omega (arith, l)

-- ---- the first key is a least one
least_within : (f : ℕ → ℤ) (n : ℕ) → IsHeap f n → (m i : ℕ) → i ≤ m → i < n → f 0 ≤ℤ f i
least_within f n h zero i u l = let e : f i ≡ f 0 = ap f (let z : i ≡ 0 = omega (arith, u) in z) in omega (arith, ints, e)
least_within f n h (suc m) i u l = elim (cases_eq i 0) [
  | inl q ↦ (let e : f i ≡ f 0 = ap f q in omega (arith, ints, e))
  | inr q ↦ (
      let p : 0 < i = omega (arith, q) in
      let k = least_within f n h m (parent i) (omega (arith, p, u)) (omega (arith, p, l)) in
      let j = h.ascends i p l in
      omega (arith, ints, k, j))
]

pub first_least : (f : ℕ → ℤ) (n : ℕ) → IsHeap f n → (i : ℕ) → i < n → f 0 ≤ℤ f i
first_least f n h i l = least_within f n h i i (omega arith) l

-- ---- the keys at a place and below it are exchanged
module _ (f g : ℕ → ℤ) (n a b : ℕ) (at_a : g a ≡ f b) (at_b : g b ≡ f a) (other : (i : ℕ) → i ≢ a → i ≢ b → g i ≡ f i)
    (p : parent b ≡ a) (pb : 0 < b) (bn : b < n) (less : f b ≤ℤ f a) where
  a_less : a < b
  a_less = let q = parent_less b pb in omega (arith, p, q)

  above_a : 0 < a → g (parent a) ≡ f (parent a)
  above_a l = let q = parent_less a l in let r = a_less in other (parent a) (λ z. omega (arith, z, q)) (λ z. omega (arith, z, q, r))

  pub up_step : IsHeapButAt f n b → IsHeapButAt g n a
  up_step h = record {
    ascends = λ i l m ne. elim (cases_eq i b) [
      | inl q ↦ (
          let e : g (parent i) ≡ f b = ap g (ap parent q ∙ p) ∙ at_a in
          let k : g i ≡ f a = ap g q ∙ at_b in
          omega (arith, ints, e, k, less))
      | inr q ↦ (let k : g i ≡ f i = other i ne q in elim (cases_eq (parent i) b) [
        | inl r ↦ (
            let e : g (parent i) ≡ f a = ap g r ∙ at_b in
            let u = h.across i l m r pb in
            let w : f (parent b) ≡ f a = ap f p in
            omega (arith, ints, e, k, u, w))
        | inr r ↦ (let u = h.ascends i l m q in elim (cases_eq (parent i) a) [
          | inl t ↦ (
              let e : g (parent i) ≡ f b = ap g t ∙ at_a in
              let w : f (parent i) ≡ f a = ap f t in
              omega (arith, ints, e, k, u, w, less))
          | inr t ↦ (let e : g (parent i) ≡ f (parent i) = other (parent i) t r in omega (arith, ints, e, k, u))
        ])
      ])
    ];
    across = λ i l m q pa.
        let r = a_less in
        let e = above_a pa in
        let u = h.ascends a pa (omega (arith, r, bn)) (λ z. omega (arith, z, r)) in
        elim (cases_eq i b) [
          | inl t ↦ (let k : g i ≡ f a = ap g t ∙ at_b in omega (arith, ints, e, k, u))
          | inr t ↦ (
              let k : g i ≡ f i = other i (λ z. let s = parent_less i l in omega (arith, z, s, q)) t in
              let w = h.ascends i l m t in
              let v : f (parent i) ≡ f a = ap f q in
              omega (arith, ints, e, k, u, w, v))
        ];
  }

  pub down_step : ((i : ℕ) → 0 < i → i < n → parent i ≡ a → f b ≤ℤ f i) → IsHeapButBelow f n a → IsHeapButBelow g n b
  down_step least h = record {
    ascends = λ i l m ne. elim (cases_eq i a) [
      | inl q ↦ (
          let pa : 0 < a = omega (arith, l, q) in
          let e : g (parent i) ≡ f (parent a) = ap g (ap parent q) ∙ above_a pa in
          let k : g i ≡ f b = ap g q ∙ at_a in
          let u = h.across b pb bn p pa in
          omega (arith, ints, e, k, u))
      | inr q ↦ elim (cases_eq (parent i) a) [
        | inl r ↦ (let e : g (parent i) ≡ f b = ap g r ∙ at_a in elim (cases_eq i b) [
          | inl t ↦ (let k : g i ≡ f a = ap g t ∙ at_b in omega (arith, ints, e, k, less))
          | inr t ↦ (
              let k : g i ≡ f i = other i q t in
              let u = least i l m r in
              omega (arith, ints, e, k, u))
        ])
        | inr r ↦ (
            let e : g (parent i) ≡ f (parent i) = other (parent i) r ne in
            let k : g i ≡ f i = other i q (λ z. r (ap parent z ∙ p)) in
            let u = h.ascends i l m r in
            omega (arith, ints, e, k, u))
      ]
    ];
    across = λ i l m q _.
        let r = a_less in
        let s = parent_less i l in
        let e : g (parent b) ≡ f b = ap g p ∙ at_a in
        let k : g i ≡ f i = other i (λ z. omega (arith, z, q, r, s)) (λ z. omega (arith, z, q, s)) in
        let u = h.ascends i l m (λ z. omega (arith, z, q, r)) in
        let w : f (parent i) ≡ f b = ap f q in
        omega (arith, ints, e, k, u, w);
  }

-- ---- the nodes at two places are exchanged

module _ (xs ys : List NodeId) (a b : ℕ) (s : SwappedAt xs ys a b) where
  now_a : node_at ys a ≡ node_at xs b
  now_a = ap (λ (v : NodeId). v.0) (s.0 (record { 0 = 0 }))

  pub now_b : node_at ys b ≡ node_at xs a
  now_b = ap (λ (v : NodeId). v.0) (s.1 (record { 0 = 0 }))

  now_other : (i : ℕ) → i ≢ a → i ≢ b → node_at ys i ≡ node_at xs i
  now_other i p q = ap (λ (v : NodeId). v.0) (s.2 i (record { 0 = 0 }) p q)

  pub exchanged_keys : (dist : List ℤ) → (key_at dist ys a ≡ key_at dist xs b) × (key_at dist ys b ≡ key_at dist xs a) × ((i : ℕ) → i ≢ a → i ≢ b → key_at dist ys i ≡ key_at dist xs i)
  exchanged_keys dist = (
    ap (λ v. get_or dist v (negsuc 0)) now_a,
    ap (λ v. get_or dist v (negsuc 0)) now_b,
    λ i p q. ap (λ v. get_or dist v (negsuc 0)) (now_other i p q),
  )

  module _ (n : ℕ) (an : a < n) (bn : b < n) where
    exchanged_reordered : IsReordered xs ys n
    exchanged_reordered = record {
      kept = λ v m. elim (cases_eq m.0 a) [
        | inl q ↦ (b, bn, now_b ∙ ap (node_at xs) (sym q) ∙ m.2)
        | inr q ↦ elim (cases_eq m.0 b) [
          | inl r ↦ (a, an, now_a ∙ ap (node_at xs) (sym r) ∙ m.2)
          | inr r ↦ (m.0, m.1, now_other m.0 q r ∙ m.2)
        ]
      ];
      no_more = λ v m. elim (cases_eq m.0 a) [
        | inl q ↦ (b, bn, sym now_a ∙ ap (node_at ys) (sym q) ∙ m.2)
        | inr q ↦ elim (cases_eq m.0 b) [
          | inl r ↦ (a, an, sym now_b ∙ ap (node_at ys) (sym r) ∙ m.2)
          | inr r ↦ (m.0, m.1, sym (now_other m.0 q r) ∙ m.2)
        ]
      ];
      beyond = λ i l. now_other i (λ z. omega (arith, z, l, an)) (λ z. omega (arith, z, l, bn));
    }

    module _ (ps : List ℕ) (h : ArePlaced xs ps n) where
      told_once : (i j : ℕ) → i < n → j < n → node_at xs i ≡ node_at xs j → i ≡ j
      told_once i j l m e = sym (h.told i l) ∙ ap (λ v. get_or ps v 0) e ∙ h.told j m

      swapped_places : List ℕ
      swapped_places = set (set ps (node_at xs b) a) (node_at xs a) b

      long : length swapped_places ≡ length ps
      unfolding swapped_places
      long = length-set (set ps (node_at xs b) a) (node_at xs a) b ∙ length-set ps (node_at xs b) a

      told_b : get_or swapped_places (node_at xs a) 0 ≡ b
      unfolding swapped_places
      told_b = get_or-set_same (set ps (node_at xs b) a) (node_at xs a) b 0 (let e = length-set ps (node_at xs b) a in let k = h.within a an in omega (arith, e, k))

      told_a : get_or swapped_places (node_at xs b) 0 ≡ a
      unfolding swapped_places
      told_a = elim (cases_eq (node_at xs b) (node_at xs a)) [
        | inl e ↦ ap (λ v. get_or (set (set ps (node_at xs b) a) (node_at xs a) b) v 0) e ∙ told_b ∙ told_once b a bn an e
        | inr e ↦ get_or-set_other (set ps (node_at xs b) a) (node_at xs a) (node_at xs b) b 0 e ∙ get_or-set_same ps (node_at xs b) a 0 (h.within b bn)
      ]

      told_other : (i : ℕ) → i < n → i ≢ a → i ≢ b → get_or swapped_places (node_at xs i) 0 ≡ i
      unfolding swapped_places
      told_other i l p q =
          get_or-set_other (set ps (node_at xs b) a) (node_at xs a) (node_at xs i) b 0 (λ e. p (told_once i a l an e))
          ∙ get_or-set_other ps (node_at xs b) (node_at xs i) a 0 (λ e. q (told_once i b l bn e)) ∙ h.told i l

      all_placed : ArePlaced ys swapped_places n
      all_placed = record {
        within = λ i l. elim (cases_eq i a) [
          | inl q ↦ (let e = ap (node_at ys) q ∙ now_a in let k = h.within b bn in omega (arith, e, k, long))
          | inr q ↦ elim (cases_eq i b) [
            | inl r ↦ (let e = ap (node_at ys) r ∙ now_b in let k = h.within a an in omega (arith, e, k, long))
            | inr r ↦ (let e = now_other i q r in let k = h.within i l in omega (arith, e, k, long))
          ]
        ];
        told = λ i l. elim (cases_eq i a) [
          | inl q ↦ ap (λ v. get_or swapped_places v 0) (ap (node_at ys) q ∙ now_a) ∙ told_a ∙ sym q
          | inr q ↦ elim (cases_eq i b) [
            | inl r ↦ ap (λ v. get_or swapped_places v 0) (ap (node_at ys) r ∙ now_b) ∙ told_b ∙ sym r
            | inr r ↦ ap (λ v. get_or swapped_places v 0) (now_other i q r) ∙ told_other i l q r
          ]
        ];
      }

pub exchanged : (xs ys : List NodeId) (ps qs : List ℕ) (a b n : ℕ) → SwappedAt xs ys a b → qs ≡ set (set ps (node_at xs b) a) (node_at xs a) b → a < n → b < n → Sifts xs ps ys qs n
unfolding swapped_places
exchanged xs ys ps qs a b n s e an bn = record {
  reordered = exchanged_reordered xs ys a b s n an bn;
  placed = λ h. subst (λ z. ArePlaced ys z n) (sym e) (all_placed xs ys a b s n an bn ps h);
}

-- ---- one order after another
reordered_twice : (xs ys zs : List NodeId) (n : ℕ) → IsReordered xs ys n → IsReordered ys zs n → IsReordered xs zs n
reordered_twice xs ys zs n h k = record {
  kept = λ v m. k.kept v (h.kept v m);
  no_more = λ v m. h.no_more v (k.no_more v m);
  beyond = λ i l. k.beyond i l ∙ h.beyond i l;
}

pub sifts_twice : (xs ys zs : List NodeId) (ps qs rs : List ℕ) (n : ℕ) → Sifts xs ps ys qs n → Sifts ys qs zs rs n → Sifts xs ps zs rs n
sifts_twice xs ys zs ps qs rs n h k = record {
  reordered = reordered_twice xs ys zs n h.reordered k.reordered;
  placed = λ p. k.placed (h.placed p);
}

-- ---- a node is added at the end
pub added : (xs : List NodeId) (n : ℕ) (v : NodeId) → n < length xs → (w : ℕ) → IsAmong xs n w ⊎ (w ≡ v.0) → IsAmong (set xs n v) (n + 1) w
added xs n v h w (inl m) =
    let other : m.0 ≢ n = λ z. (let l = m.1 in omega (arith, z, l)) in
    (m.0, (let l = m.1 in omega (arith, l)), ap (λ (k : NodeId). k.0) (get_or-set_other xs n m.0 v (record { 0 = 0 }) other) ∙ m.2)
added xs n v h w (inr e) = (n, omega arith, ap (λ (k : NodeId). k.0) (get_or-set_same xs n v (record { 0 = 0 }) h) ∙ sym e)

pub added_back : (xs : List NodeId) (n : ℕ) (v : NodeId) → n < length xs → (w : ℕ) → IsAmong (set xs n v) (n + 1) w → IsAmong xs n w ⊎ (w ≡ v.0)
added_back xs n v h w m = elim (cases_eq m.0 n) [
  | inl q ↦ inr (sym m.2 ∙ ap (node_at (set xs n v)) q ∙ ap (λ (k : NodeId). k.0) (get_or-set_same xs n v (record { 0 = 0 }) h))
  | inr q ↦ inl (m.0, (let l = m.1 in omega (arith, l, q)), ap (λ (k : NodeId). k.0) (sym (get_or-set_other xs n m.0 v (record { 0 = 0 }) q)) ∙ m.2)
]
