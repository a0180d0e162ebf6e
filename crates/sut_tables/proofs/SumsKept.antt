-- The sums that a table keeps: what they are, and that they stay so when a cell's number changes.
use Rattle.std.proofs.Common.{BTreeMap, ◌≡◌, ℕ, zero, suc, ℤ, pos, ◌+ℤ◌, ◌-ℤ◌, ◌*ℤ◌, ◌<◌, List, [], ◌∷◌, length, get_or, set, map, Bool, true, false, if◌then◌else◌, Option, Some, None, refl, sym, ◌∙◌, ap, subst, arith, unwrap_or, to_z, of_z}
use mir.Syntax.{w128}
use Rattle.std.proofs.lemmas.Int.{ints}
use Rattle.std.specs.Prelude.{◌==◌, ◌*◌, ◌^◌, ◌≤ℤ◌, neg_ℤ, All, MatchOption}
use Rattle.std.specs.Option.{option_map, ForSome}
use Rattle.std.proofs.lemmas.List.Elements.{All-set, All-weaker}
use Rattle.std.proofs.lemmas.Option.{none-some, same_Some}
use Rattle.sut_tables.specs.Rows.{InRange}
use Rattle.sut_tables.proofs.Wide.{Within, sum-within, part-in_range, zero-in_range}
use Rattle.std.proofs.Math.IntN.{zero-*ℤ}
use Rattle.sut_classes.specs.Groups.{Groups}
use Rattle.sut_classes.specs.declared.ids.ProductGroupId.{ProductGroupId}
use Rattle.sut_classes.specs.declared.ids.IndustryGroupId.{IndustryGroupId}
use Rattle.sut_classes.specs.declared.ids.ProductId.{ProductId}
use Rattle.sut_classes.specs.declared.ids.MarginId.{MarginId}
use Rattle.sut_measures.specs.Keys.{total_key}
use Rattle.sut_measures.specs.Sums.{cell_product_group, cell_industry_group, factor, same_total, sign_in, stands_in, totals_by}
use Rattle.sut_measures.specs.declared.measures.Cell.{Cell}
use Rattle.sut_measures.specs.declared.measures.Cell.TheVariants as cell
use Rattle.sut_measures.specs.declared.measures.Total.{Total}
use Rattle.sut_measures.proofs.TotalsBy.{totals_with-by}
use Rattle.sut_tables.specs.declared.tables.Held.{Held}
use Rattle.sut_tables.specs.declared.sums.CellSum.{CellSum}
use Rattle.sut_tables.specs.declared.sums.CellSum.TheVariants as sum
use Rattle.sut_tables.specs.TableFacts.{TableFacts}
use Rattle.sut_tables.specs.TableView.{IsSumOf}
use Rattle.sut_tables.specs.CellSums.{IsUpTo, added_to, counts_in, kept_for, sum_at, sums_by, sums_with}
use Rattle.sut_tables.specs.Values.{int_sum_by}
use Rattle.sut_tables.specs.Identities.{is_service_of, is_used_or_serving}
use Rattle.sut_tables.proofs.IntSums.{sum-zero, *ℤ-sum}
use Rattle.sut_tables.proofs.Nodes.{where_so}
use Rattle.sut_tables.proofs.Ordered.{same-flip}
use Rattle.sut_tables.proofs.Parts.{parts-agree}
use Rattle.sut_tables.proofs.Paths.{one-*ℤ}
use Rattle.sut_tables.proofs.HeldCells.{with_number}
use Rattle.sut_tables.proofs.Lists.{sum-same-all}
use Rattle.sut_tables.proofs.Past.{sum_where-none}

-- a sum in which no held cell counts is 0
pub sum_at-none : (t : TableFacts) (s : CellSum) → All (λ (h : Held). counts_in t.groups h.cell s ≡ false) t.cells → sum_at t s ≡ pos 0
sum_at-none t (sum.Total u) a =
    sum-same-all (λ (h : Held). stands_in t.groups h.cell u ≡ false) (λ (h : Held). factor t.groups h.cell u *ℤ h.number) (λ h. pos 0) (λ h e. rw e (zero-*ℤ h.number)) t.cells a
    ∙ sum-zero t.cells
sum_at-none t (sum.Uses i) a = sum_where-none (is_used_or_serving i) t.cells a
sum_at-none t (sum.Services k) a = sum_where-none (is_service_of k) t.cells a

-- the number kept for a sum, or 0, is the sum
pub kept-is : (t : TableFacts) (s : CellSum) (m : BTreeMap CellSum ℤ) → IsSumOf t s m → unwrap_or (kept_for m s) (pos 0) ≡ sum_at t s
kept-is t s m = by (kept_for m s)
  where
    by : (o : Option ℤ) → MatchOption o (All (λ (h : Held). counts_in t.groups h.cell s ≡ false) t.cells) (λ x. x ≡ sum_at t s) → unwrap_or o (pos 0) ≡ sum_at t s
    by None a = sym (sum_at-none t s a)
    by (Some x) e = e

-- ---- a change of a cell's number

-- what a cell's number adds to a sum
abbrev pub share : Groups → CellSum → Cell → ℤ → ℤ
share gs (sum.Total u) c x = factor gs c u *ℤ x
share gs (sum.Uses i) c x = if is_used_or_serving i c then x else pos 0
share gs (sum.Services k) c x = if is_service_of k c then x else pos 0

pub sum_at-shares : (t : TableFacts) (s : CellSum) → sum_at t s ≡ int_sum_by (λ (h : Held). share t.groups s h.cell h.number) t.cells
sum_at-shares t (sum.Total u) = refl
sum_at-shares t (sum.Uses i) = refl
sum_at-shares t (sum.Services k) = refl

so-sum : (b : Bool) (x y : ℤ) → where_so b (x +ℤ y) ≡ where_so b x +ℤ where_so b y
so-sum true x y = refl
so-sum false x y = refl

share-sum : (gs : Groups) (s : CellSum) (c : Cell) (x y : ℤ) → share gs s c (x +ℤ y) ≡ share gs s c x +ℤ share gs s c y
share-sum gs (sum.Total u) c x y = *ℤ-sum (factor gs c u) x y
share-sum gs (sum.Uses i) c x y = so-sum (is_used_or_serving i c) x y
share-sum gs (sum.Services k) c x y = so-sum (is_service_of k c) x y

-- a sum over a list of which one element changes
pub sum-set : {X : Type 0} (f : X → ℤ) (xs : List X) (i : ℕ) (x y : X) → i < length xs → get_or xs i x ≡ x → int_sum_by f (set xs i y) +ℤ f x ≡ int_sum_by f xs +ℤ f y
sum-set f [] i x y l at = absurd (omega arith)
sum-set f (z ∷ zs) zero x y l at = rw at (around (f x) (f y) (int_sum_by f zs))
  where
    around : (a b r : ℤ) → (b +ℤ r) +ℤ a ≡ (a +ℤ r) +ℤ b
    around a b r = omega (arith, ints)
sum-set f (z ∷ zs) (suc i) x y l at = within (f z) (int_sum_by f (set zs i y)) (int_sum_by f zs) (f x) (f y) (sum-set f zs i x y (omega arith) at)
  where
    within : (z r s a b : ℤ) → r +ℤ a ≡ s +ℤ b → (z +ℤ r) +ℤ a ≡ (z +ℤ s) +ℤ b
    within z r s a b e = omega (arith, ints)

-- a sum over a table of which one number changes
pub sum_at-set : (t : TableFacts) (s : CellSum) (i : ℕ) (h : Held) (x : ℤ) → i < length t.cells → get_or t.cells i h ≡ h
    → sum_at (record t { cells = set t.cells i (with_number h x) }) s ≡ sum_at t s +ℤ share t.groups s h.cell (x -ℤ h.number)
sum_at-set t s i h x l at =
    sum_at-shares (record t { cells = set t.cells i (with_number h x) }) s
    ∙ joined (int_sum_by f (set t.cells i (with_number h x))) (int_sum_by f t.cells) (share t.groups s h.cell h.number) (share t.groups s h.cell x) (share t.groups s h.cell (x -ℤ h.number))
    (sum-set f t.cells i h (with_number h x) l at) (ap (share t.groups s h.cell) (back x h.number) ∙ share-sum t.groups s h.cell h.number (x -ℤ h.number))
    ∙ ap (λ z. z +ℤ share t.groups s h.cell (x -ℤ h.number)) (sym (sum_at-shares t s))
  where
    f : Held → ℤ
    f g = share t.groups s g.cell g.number

    back : (x y : ℤ) → x ≡ y +ℤ (x -ℤ y)
    back x y = omega (arith, ints)

    joined : (n o a b d : ℤ) → n +ℤ a ≡ o +ℤ b → b ≡ a +ℤ d → n ≡ o +ℤ d
    joined n o a b d e g = omega (arith, ints)

-- ---- the same by a cell's own sums

module _ (gs : Groups) (d : ℤ) where
  total-added : (c : Cell) (u : Total) (ws : List Total) → added_to (sum.Total u) c d (map sum.Total ws) ≡ int_sum_by (λ w. where_so (same_total u w) (sign_in c w *ℤ d)) ws
  total-added c u [] = refl
  total-added c u (w ∷ ws) = rw (same-flip (total_key w) (total_key u), total-added c u ws) refl

  total-share : (c : Cell) (u : Total) → added_to (sum.Total u) c d (map sum.Total (totals_by (cell_product_group gs c) (cell_industry_group gs c) c)) ≡ factor gs c u *ℤ d
  total-share c u = total-added c u (totals_by (cell_product_group gs c) (cell_industry_group gs c) c) ∙ ap (int_sum_by (λ w. where_so (same_total u w) (sign_in c w *ℤ d))) (sym (totals_with-by gs c)) ∙ sym (parts-agree gs (λ w. d) c u)

  no-uses : (c : Cell) (i : ProductId) (ws : List Total) → added_to (sum.Uses i) c d (map sum.Total ws) ≡ pos 0
  no-uses c i [] = refl
  no-uses c i (w ∷ ws) = rw (no-uses c i ws) refl

  no-services : (c : Cell) (k : MarginId) (ws : List Total) → added_to (sum.Services k) c d (map sum.Total ws) ≡ pos 0
  no-services c k [] = refl
  no-services c k (w ∷ ws) = rw (no-services c k ws) refl

  one-so : (b : Bool) → (if b then pos 1 *ℤ d else pos 0) ≡ where_so b d
  one-so true = one-*ℤ d
  one-so false = refl

  zero_and : {x y : ℤ} → x ≡ y → pos 0 +ℤ x ≡ y
  zero_and e = omega (arith, ints, e)

  and_zero : {x y z : ℤ} → x ≡ y → z ≡ pos 0 → x +ℤ z ≡ y
  and_zero e f = omega (arith, ints, e, f)

  -- what a change adds to a sum is the cell's share of the change
  pub added-share : (c : Cell) (s : CellSum) → added_to s c d (sums_with gs c) ≡ share gs s c d
  added-share (cell.Make n j) (sum.Total u) = total-share (cell.Make n j) u
  added-share (cell.Make n j) (sum.Uses i) = no-uses (cell.Make n j) i (totals_by (cell_product_group gs (cell.Make n j)) (cell_industry_group gs (cell.Make n j)) (cell.Make n j))
  added-share (cell.Make n j) (sum.Services k) = no-services (cell.Make n j) k (totals_by (cell_product_group gs (cell.Make n j)) (cell_industry_group gs (cell.Make n j)) (cell.Make n j))
  added-share (cell.Import n) (sum.Total u) = total-share (cell.Import n) u
  added-share (cell.Import n) (sum.Uses i) = no-uses (cell.Import n) i (totals_by (cell_product_group gs (cell.Import n)) (cell_industry_group gs (cell.Import n)) (cell.Import n))
  added-share (cell.Import n) (sum.Services k) = no-services (cell.Import n) k (totals_by (cell_product_group gs (cell.Import n)) (cell_industry_group gs (cell.Import n)) (cell.Import n))
  added-share (cell.Margin l n q) (sum.Total u) = total-share (cell.Margin l n q) u
  added-share (cell.Margin l n q) (sum.Uses i) = no-uses (cell.Margin l n q) i (totals_by (cell_product_group gs (cell.Margin l n q)) (cell_industry_group gs (cell.Margin l n q)) (cell.Margin l n q))
  added-share (cell.Margin l n q) (sum.Services k) = no-services (cell.Margin l n q) k (totals_by (cell_product_group gs (cell.Margin l n q)) (cell_industry_group gs (cell.Margin l n q)) (cell.Margin l n q))
  added-share (cell.Tax l n q) (sum.Total u) = total-share (cell.Tax l n q) u
  added-share (cell.Tax l n q) (sum.Uses i) = no-uses (cell.Tax l n q) i (totals_by (cell_product_group gs (cell.Tax l n q)) (cell_industry_group gs (cell.Tax l n q)) (cell.Tax l n q))
  added-share (cell.Tax l n q) (sum.Services k) = no-services (cell.Tax l n q) k (totals_by (cell_product_group gs (cell.Tax l n q)) (cell_industry_group gs (cell.Tax l n q)) (cell.Tax l n q))
  added-share (cell.Added v j) (sum.Total u) = total-share (cell.Added v j) u
  added-share (cell.Added v j) (sum.Uses i) = no-uses (cell.Added v j) i (totals_by (cell_product_group gs (cell.Added v j)) (cell_industry_group gs (cell.Added v j)) (cell.Added v j))
  added-share (cell.Added v j) (sum.Services k) = no-services (cell.Added v j) k (totals_by (cell_product_group gs (cell.Added v j)) (cell_industry_group gs (cell.Added v j)) (cell.Added v j))
  added-share (cell.Basic n q) (sum.Total u) = zero_and (total-share (cell.Basic n q) u)
  added-share (cell.Basic n q) (sum.Uses i) = and_zero (one-so (n.0 == i.0)) (no-uses (cell.Basic n q) i (totals_by (cell_product_group gs (cell.Basic n q)) (cell_industry_group gs (cell.Basic n q)) (cell.Basic n q)))
  added-share (cell.Basic n q) (sum.Services k) = zero_and (no-services (cell.Basic n q) k (totals_by (cell_product_group gs (cell.Basic n q)) (cell_industry_group gs (cell.Basic n q)) (cell.Basic n q)))
  added-share (cell.Service n l) (sum.Total u) = total-share (cell.Service n l) u
  added-share (cell.Service n l) (sum.Uses i) = and_zero (one-so (n.0 == i.0)) refl
  added-share (cell.Service n l) (sum.Services k) = zero_and (and_zero (one-so (l.0 == k.0)) refl)

-- the sums stay kept where a held cell takes another number, and the numbers kept for its sums change with it
pub kept-set : (t : TableFacts) (i : ℕ) (h : Held) (x d : ℤ) → i < length t.cells → get_or t.cells i h ≡ h → d ≡ x -ℤ h.number
    → (s : CellSum) (m n : BTreeMap CellSum ℤ) → IsSumOf t s m → kept_for n s ≡ option_map (λ y. y +ℤ added_to s h.cell d (sums_with t.groups h.cell)) (kept_for m s)
    → IsSumOf (record t { cells = set t.cells i (with_number h x) }) s n
kept-set t i h x d l at is s m n k e =
    subst (λ o. MatchOption o (All (λ (g : Held). counts_in t.groups g.cell s ≡ false) (set t.cells i (with_number h x))) (λ y. y ≡ sum_at (record t { cells = set t.cells i (with_number h x) }) s)) (sym e) (by (kept_for m s) k)
  where
    none : All (λ (g : Held). counts_in t.groups g.cell s ≡ false) t.cells → All (λ (g : Held). counts_in t.groups g.cell s ≡ false) (set t.cells i (with_number h x))
    none a = All-set (λ (g : Held). counts_in t.groups g.cell s ≡ false) t.cells i (with_number h x) (subst (λ (g : Held). counts_in t.groups g.cell s ≡ false) at (a i h l)) a

    by : (o : Option ℤ) → MatchOption o (All (λ (g : Held). counts_in t.groups g.cell s ≡ false) t.cells) (λ y. y ≡ sum_at t s)
        → MatchOption (option_map (λ y. y +ℤ added_to s h.cell d (sums_with t.groups h.cell)) o) (All (λ (g : Held). counts_in t.groups g.cell s ≡ false) (set t.cells i (with_number h x))) (λ y. y ≡ sum_at (record t { cells = set t.cells i (with_number h x) }) s)
    by None a = none a
    by (Some y) q =
        ap (λ z. z +ℤ added_to s h.cell d (sums_with t.groups h.cell)) q
        ∙ ap (λ z. sum_at t s +ℤ z) (added-share t.groups d h.cell s ∙ ap (share t.groups s h.cell) is)
        ∙ sym (sum_at-set t s i h x l at)

-- the change of a cell's sums, by the groups that were looked up for it
pub changed-by : (gs : Groups) (c : Cell) (h : Held) (d : ℤ) (g : Option ProductGroupId) (j : Option IndustryGroupId) → g ≡ cell_product_group gs c → j ≡ cell_industry_group gs c → h.cell ≡ c
    → (s : CellSum) (o r : Option ℤ) → r ≡ option_map (λ y. y +ℤ added_to s c d (sums_by g j c)) o → r ≡ option_map (λ y. y +ℤ added_to s h.cell d (sums_with gs h.cell)) o
changed-by gs c h d g j p q is s o r e =
    e
    ∙ ap (λ g. option_map (λ y. y +ℤ added_to s c d (sums_by g j c)) o) p
    ∙ ap (λ j. option_map (λ y. y +ℤ added_to s c d (sums_by (cell_product_group gs c) j c)) o) q
    ∙ ap (λ k. option_map (λ y. y +ℤ added_to s k d (sums_with gs k)) o) (sym is)

-- the change of a number in range is small
pub change-small : (x y d : ℤ) → InRange x → InRange y → d ≡ x -ℤ y → IsUpTo (2 ^ 50) d
change-small x y d a b is = record { low = low a.low b.high; high = high a.high b.low }
  where
    low : neg_ℤ (pos 1000000000000) ≤ℤ x → y ≤ℤ pos 1000000000000 → neg_ℤ (pos (2 ^ 50)) ≤ℤ d
    low g h = omega (arith, ints, is)

    high : x ≤ℤ pos 1000000000000 → neg_ℤ (pos 1000000000000) ≤ℤ y → d ≤ℤ pos (2 ^ 50)
    high g h = omega (arith, ints, is)

pub change-is : (a b x y : ℤ) → InRange x → InRange y → a ≡ x → b ≡ y → to_z w128 (of_z w128 (to_z w128 (of_z w128 a) -ℤ to_z w128 (of_z w128 b))) ≡ x -ℤ y
change-is a b x y r q e f = by r.low r.high q.low q.high
  where
    by : neg_ℤ (pos 1000000000000) ≤ℤ x → x ≤ℤ pos 1000000000000 → neg_ℤ (pos 1000000000000) ≤ℤ y → y ≤ℤ pos 1000000000000
        → to_z w128 (of_z w128 (to_z w128 (of_z w128 a) -ℤ to_z w128 (of_z w128 b))) ≡ x -ℤ y
    by m n k l = omega (arith, ints, e, f)

-- ---- how large the sums are

so-in_range : (b : Bool) (x : ℤ) → InRange x → InRange (where_so b x)
so-in_range true x r = r
so-in_range false x r = zero-in_range

share-up_to : (gs : Groups) (s : CellSum) (c : Cell) (x : ℤ) → InRange x → InRange (share gs s c x)
share-up_to gs (sum.Total u) c x r = part-in_range gs c u x r
share-up_to gs (sum.Uses i) c x r = so-in_range (is_used_or_serving i c) x r
share-up_to gs (sum.Services k) c x r = so-in_range (is_service_of k c) x r

-- the sums over a table whose numbers are in range are far below 2^120
pub sum_at-small : (t : TableFacts) → All (λ (h : Held). InRange h.number) t.cells → length t.cells < 2 ^ 64 → (s : CellSum) → IsUpTo (2 ^ 120) (sum_at t s)
sum_at-small t r l s =
    small (length t.cells) (sum_at t s) l
    (subst (Within (length t.cells)) (sym (sum_at-shares t s))
    (sum-within (λ (h : Held). share t.groups s h.cell h.number) t.cells (All-weaker (λ (h : Held). InRange h.number) (λ (h : Held). InRange (share t.groups s h.cell h.number)) (λ h. share-up_to t.groups s h.cell h.number) t.cells r)))
  where
    small : (n : ℕ) (z : ℤ) → n < 2 ^ 64 → Within n z → IsUpTo (2 ^ 120) z
    small n z h w = record { low = low w.0; high = high w.1 }
      where
        low : neg_ℤ (pos (n * 1000000000000)) ≤ℤ z → neg_ℤ (pos (2 ^ 120)) ≤ℤ z
        low g = omega (arith, ints)

        high : z ≤ℤ pos (n * 1000000000000) → z ≤ℤ pos (2 ^ 120)
        high g = omega (arith, ints)

-- so is every number that is kept
pub kept-small : (t : TableFacts) → All (λ (h : Held). InRange h.number) t.cells → length t.cells < 2 ^ 64 → (s : CellSum) (m : BTreeMap CellSum ℤ) → IsSumOf t s m → ForSome (kept_for m s) (IsUpTo (2 ^ 120))
kept-small t r l s m k = by (kept_for m s) k
  where
    by : (o : Option ℤ) → MatchOption o (All (λ (h : Held). counts_in t.groups h.cell s ≡ false) t.cells) (λ x. x ≡ sum_at t s) → ForSome o (IsUpTo (2 ^ 120))
    by None a x e = absurd (none-some x e)
    by (Some y) q x e = subst (IsUpTo (2 ^ 120)) (sym q ∙ same_Some y x e) (sum_at-small t r l s)
