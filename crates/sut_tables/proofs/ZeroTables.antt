-- Tables of zeros: their cells, and the sums kept for them.
use Rattle.std.proofs.Common.{BTreeMap, ◌≡◌, ℕ, zero, suc, ℤ, pos, ◌+◌, List, [], ◌∷◌, ◌++◌, map, take, length, get_or, ◌<◌, ◌≤◌, Bool, true, false, ◌||◌, if◌then◌else◌, Option, Some, None, cond, refl, sym, ◌∙◌, ap, subst, arith, add-one}
use Rattle.std.specs.Prelude.{◌==◌, All, MatchOption, slice_get}
use Rattle.std.specs.List.{cons_option, filter_map, list_any}
use Rattle.std.specs.Map.{lookup}
use Rattle.std.specs.BTreeMap.{UpdatesBy}
use Rattle.std.proofs.lemmas.List.{append_assoc, take_all, take_more}
use Rattle.std.proofs.lemmas.List.Elements.{All-nil, All-map, All-more}
use Rattle.std.proofs.lemmas.Option.{same_Some, slice_get-get_or}
use Rattle.std.proofs.Math.IntN.{*ℤ-zero}
use Rattle.sut_classes.specs.Groups.{Groups, group_in}
use Rattle.sut_measures.specs.Keys.{cell_key, total_key}
use Rattle.sut_measures.specs.Sums.{cell_product_group, cell_industry_group, factor, stands_in, totals_by, totals_with}
use Rattle.sut_measures.proofs.TotalsBy.{totals_with-by}
use Rattle.sut_measures.specs.declared.measures.Cell.{Cell}
use Rattle.sut_measures.specs.declared.measures.Cell.TheVariants as cell
use Rattle.sut_measures.specs.declared.measures.Total.{Total}
use Rattle.sut_measures.specs.declared.measures.Measure.{Measure}
use Rattle.sut_measures.specs.declared.measures.Measure.TheVariants as measure
use Rattle.sut_classes.specs.declared.ids.ProductGroupId.{ProductGroupId}
use Rattle.sut_classes.specs.declared.ids.IndustryGroupId.{IndustryGroupId}
use Rattle.sut_classes.specs.declared.ids.ProductId.{ProductId}
use Rattle.sut_classes.specs.declared.ids.MarginId.{MarginId}
use Rattle.sut_tables.specs.declared.tables.Held.{Held}
use Rattle.sut_tables.specs.declared.sums.CellSum.{CellSum}
use Rattle.sut_tables.specs.declared.sums.CellSum.TheVariants as sum
use Rattle.sut_tables.specs.RowFacts.{RowFacts}
use Rattle.sut_tables.specs.Problems.{cell_of}
use Rattle.sut_tables.specs.CellSums.{IsZeroFor, counts_in, kept_for, same_sum, sum_at, sums_by, sums_with}
use Rattle.sut_tables.specs.Identities.{is_service_of, is_used_or_serving}
use Rattle.sut_tables.specs.InOrder.{IsAscending}
use Rattle.sut_tables.specs.Rows.{InRange}
use Rattle.sut_tables.specs.TableFacts.{TableFacts}
use Rattle.sut_tables.specs.TableView.{IsSumOf}
use Rattle.sut_tables.specs.Values.{int_sum_by}
use Rattle.sut_tables.proofs.HeldCells.{key_of}
use Rattle.sut_tables.proofs.SumsKept.{share, sum_at-shares}
use Rattle.sut_tables.proofs.Wide.{zero-in_range}
use Rattle.sut_tables.proofs.Ordered.{among}
use Rattle.sut_tables.proofs.SumMaps.{compare, compare-same, lookup-kept}
use Rattle.sut_tables.proofs.SumChanges.{take_past}
use Rattle.sut_tables.proofs.LiveMeasures.{totals-are}

abbrev pub zero_held : Cell → Held
zero_held c = record { cell = c; number = pos 0 }

-- ---- the cells

pub zero-cell : (hs zs : List Held) (r : RowFacts) (rows : List RowFacts) (c : Cell) → r.measure ≡ measure.Cell c
    → hs ++ map zero_held (filter_map (λ (r : RowFacts). cell_of r.measure) (r ∷ rows)) ≡ zs
    → (hs ++ zero_held c ∷ []) ++ map zero_held (filter_map (λ (r : RowFacts). cell_of r.measure) rows) ≡ zs
zero-cell hs zs r rows c is e =
    append_assoc hs (zero_held c ∷ []) (map zero_held (filter_map (λ (r : RowFacts). cell_of r.measure) rows))
    ∙ ap (λ m. hs ++ map zero_held (cons_option (cell_of m) (filter_map (λ (r : RowFacts). cell_of r.measure) rows))) (sym is) ∙ e

pub zero-total : (hs zs : List Held) (r : RowFacts) (rows : List RowFacts) (u : Total) → r.measure ≡ measure.Total u
    → hs ++ map zero_held (filter_map (λ (r : RowFacts). cell_of r.measure) (r ∷ rows)) ≡ zs
    → hs ++ map zero_held (filter_map (λ (r : RowFacts). cell_of r.measure) rows) ≡ zs
zero-total hs zs r rows u is e = ap (λ m. hs ++ map zero_held (cons_option (cell_of m) (filter_map (λ (r : RowFacts). cell_of r.measure) rows))) (sym is) ∙ e

-- ---- in which sums a cell counts

any-totals : (u : Total) (ws : List Total) → list_any (λ w. same_sum w (sum.Total u)) (map sum.Total ws) ≡ among total_key (total_key u) ws
any-totals u [] = refl
any-totals u (w ∷ ws) = rw (any-totals u ws) refl

no-uses : (i : ProductId) (ws : List Total) → list_any (λ w. same_sum w (sum.Uses i)) (map sum.Total ws) ≡ false
no-uses i [] = refl
no-uses i (w ∷ ws) = no-uses i ws

no-services : (k : MarginId) (ws : List Total) → list_any (λ w. same_sum w (sum.Services k)) (map sum.Total ws) ≡ false
no-services k [] = refl
no-services k (w ∷ ws) = no-services k ws

or_false : (b c : Bool) → c ≡ false → (b || c) ≡ b
or_false true c e = refl
or_false false c e = e

module _ (gs : Groups) where
  total-counts : (c : Cell) (u : Total) → list_any (λ w. same_sum w (sum.Total u)) (map sum.Total (totals_by (cell_product_group gs c) (cell_industry_group gs c) c)) ≡ stands_in gs c u
  total-counts c u = any-totals u (totals_by (cell_product_group gs c) (cell_industry_group gs c) c) ∙ ap (among total_key (total_key u)) (sym (totals_with-by gs c)) ∙ totals-are gs c u

  -- a cell counts in a sum exactly where the sum is among its own
  pub counts-are : (c : Cell) (s : CellSum) → list_any (λ w. same_sum w s) (sums_with gs c) ≡ counts_in gs c s
  counts-are (cell.Make n j) (sum.Total u) = total-counts (cell.Make n j) u
  counts-are (cell.Make n j) (sum.Uses i) = no-uses i (totals_by (cell_product_group gs (cell.Make n j)) (cell_industry_group gs (cell.Make n j)) (cell.Make n j))
  counts-are (cell.Make n j) (sum.Services k) = no-services k (totals_by (cell_product_group gs (cell.Make n j)) (cell_industry_group gs (cell.Make n j)) (cell.Make n j))
  counts-are (cell.Import n) (sum.Total u) = total-counts (cell.Import n) u
  counts-are (cell.Import n) (sum.Uses i) = no-uses i (totals_by (cell_product_group gs (cell.Import n)) (cell_industry_group gs (cell.Import n)) (cell.Import n))
  counts-are (cell.Import n) (sum.Services k) = no-services k (totals_by (cell_product_group gs (cell.Import n)) (cell_industry_group gs (cell.Import n)) (cell.Import n))
  counts-are (cell.Margin l n q) (sum.Total u) = total-counts (cell.Margin l n q) u
  counts-are (cell.Margin l n q) (sum.Uses i) = no-uses i (totals_by (cell_product_group gs (cell.Margin l n q)) (cell_industry_group gs (cell.Margin l n q)) (cell.Margin l n q))
  counts-are (cell.Margin l n q) (sum.Services k) = no-services k (totals_by (cell_product_group gs (cell.Margin l n q)) (cell_industry_group gs (cell.Margin l n q)) (cell.Margin l n q))
  counts-are (cell.Tax l n q) (sum.Total u) = total-counts (cell.Tax l n q) u
  counts-are (cell.Tax l n q) (sum.Uses i) = no-uses i (totals_by (cell_product_group gs (cell.Tax l n q)) (cell_industry_group gs (cell.Tax l n q)) (cell.Tax l n q))
  counts-are (cell.Tax l n q) (sum.Services k) = no-services k (totals_by (cell_product_group gs (cell.Tax l n q)) (cell_industry_group gs (cell.Tax l n q)) (cell.Tax l n q))
  counts-are (cell.Added v j) (sum.Total u) = total-counts (cell.Added v j) u
  counts-are (cell.Added v j) (sum.Uses i) = no-uses i (totals_by (cell_product_group gs (cell.Added v j)) (cell_industry_group gs (cell.Added v j)) (cell.Added v j))
  counts-are (cell.Added v j) (sum.Services k) = no-services k (totals_by (cell_product_group gs (cell.Added v j)) (cell_industry_group gs (cell.Added v j)) (cell.Added v j))
  counts-are (cell.Basic n q) (sum.Total u) = total-counts (cell.Basic n q) u
  counts-are (cell.Basic n q) (sum.Uses i) = or_false (n.0 == i.0) _ (no-uses i (totals_by (cell_product_group gs (cell.Basic n q)) (cell_industry_group gs (cell.Basic n q)) (cell.Basic n q)))
  counts-are (cell.Basic n q) (sum.Services k) = no-services k (totals_by (cell_product_group gs (cell.Basic n q)) (cell_industry_group gs (cell.Basic n q)) (cell.Basic n q))
  counts-are (cell.Service n l) (sum.Total u) = total-counts (cell.Service n l) u
  counts-are (cell.Service n l) (sum.Uses i) = or_false (n.0 == i.0) false refl
  counts-are (cell.Service n l) (sum.Services k) = or_false (l.0 == k.0) false refl

-- ---- one more sum that is started

list_any-take_suc : {X : Type 0} (p : X → Bool) (xs : List X) (k : ℕ) (x : X) → slice_get xs k ≡ Some x → list_any p (take (suc k) xs) ≡ (list_any p (take k xs) || p x)
list_any-take_suc p [] k x e = cc
list_any-take_suc p (y ∷ ys) zero x e = rw (same_Some y x e) (or_false (p x) false refl)
list_any-take_suc p (y ∷ ys) (suc k) x e = rw (list_any-take_suc p ys k x e) (or_three (p y) (list_any p (take k ys)) (p x))
  where
    or_three : (a b c : Bool) → (a || (b || c)) ≡ ((a || b) || c)
    or_three true b c = refl
    or_three false b c = refl

module _ (q : CellSum) (ws : List CellSum) (k : ℕ) (old mid : Option ℤ) (e : mid ≡ (if list_any (λ w. same_sum w q) (take k ws) then Some (pos 0) else old)) where
  pub started-more : (s : CellSum) → slice_get ws k ≡ Some s → (new : Option ℤ) → new ≡ (if same_sum s q then Some (pos 0) else mid) → new ≡ (if list_any (λ w. same_sum w q) (take (k + 1) ws) then Some (pos 0) else old)
  started-more s at new f = rw (add-one, list_any-take_suc (λ w. same_sum w q) ws k s at) (f ∙ rw e (by (list_any (λ w. same_sum w q) (take k ws)) (same_sum s q)))
    where
      by : (a b : Bool) → (if b then Some (pos 0) else (if a then Some (pos 0) else old)) ≡ (if (a || b) then Some (pos 0) else old)
      by true true = refl
      by true false = refl
      by false true = refl
      by false false = refl

  pub started-past : slice_get ws k ≡ None → mid ≡ (if list_any (λ w. same_sum w q) (take (k + 1) ws) then Some (pos 0) else old)
  started-past at = rw (take_past ws k at) e

pub started-all : (q : CellSum) (ws : List CellSum) (k : ℕ) → length ws ≤ k → (old new : Option ℤ) → new ≡ (if list_any (λ w. same_sum w q) (take k ws) then Some (pos 0) else old) → new ≡ (if list_any (λ w. same_sum w q) ws then Some (pos 0) else old)
started-all q ws k l old new e = subst (λ ys. new ≡ (if list_any (λ w. same_sum w q) ys then Some (pos 0) else old)) (take_all k ws l) e

-- 0 put for a sum
pub kept-zero : (m n : BTreeMap CellSum ℤ) (s : CellSum) → UpdatesBy compare (compare s) m n (Some (pos 0))
    → (q : CellSum) → kept_for n q ≡ (if same_sum s q then Some (pos 0) else kept_for m q)
kept-zero m n s updates q = sym (lookup-kept q n.entries) ∙ updates.0 q ∙ rw (compare-same s q) (ap (λ o. if same_sum s q then Some (pos 0) else o) (lookup-kept q m.entries))

-- ---- one more cell

pub zero-nothing : (gs : Groups) (q : CellSum) (m : BTreeMap CellSum ℤ) → m.entries ≡ [] → IsZeroFor gs [] q m
zero-nothing gs q m e = subst (λ es. MatchOption (lookup (same_sum q) es) (All (λ (h : Held). counts_in gs h.cell q ≡ false) []) (λ x. x ≡ pos 0)) (sym e) (All-nil (λ (h : Held). counts_in gs h.cell q ≡ false))

pub zero-more : (gs : Groups) (hs : List Held) (i : ℕ) (c : Cell) (d : Held) → i < length hs → c ≡ (get_or hs i d).cell → (q : CellSum) (m n : BTreeMap CellSum ℤ) → IsZeroFor gs (take i hs) q m
    → (g : Option ProductGroupId) (j : Option IndustryGroupId) → g ≡ cell_product_group gs c → j ≡ cell_industry_group gs c
    → kept_for n q ≡ (if list_any (λ w. same_sum w q) (sums_by g j c) then Some (pos 0) else kept_for m q) → IsZeroFor gs (take (i + 1) hs) q n
zero-more gs hs i c d l at q m n z g j p r e =
    let own = ap (λ g. if list_any (λ w. same_sum w q) (sums_by g j c) then Some (pos 0) else kept_for m q) p ∙ ap (λ j. if list_any (λ w. same_sum w q) (sums_by (cell_product_group gs c) j c) then Some (pos 0) else kept_for m q) r in
    subst (λ o. MatchOption o (All (λ (h : Held). counts_in gs h.cell q ≡ false) (take (i + 1) hs)) (λ x. x ≡ pos 0)) (sym (e ∙ own ∙ ap (λ b. if b then Some (pos 0) else kept_for m q) (counts-are gs c q)))
    (by (counts_in gs c q) refl (kept_for m q) z)
  where
    by : (b : Bool) → counts_in gs c q ≡ b → (o : Option ℤ) → MatchOption o (All (λ (h : Held). counts_in gs h.cell q ≡ false) (take i hs)) (λ x. x ≡ pos 0)
        → MatchOption (if b then Some (pos 0) else o) (All (λ (h : Held). counts_in gs h.cell q ≡ false) (take (i + 1) hs)) (λ x. x ≡ pos 0)
    by true f o z = refl
    by false f None z = All-more (λ (h : Held). counts_in gs h.cell q ≡ false) hs i d l z (subst (λ k. counts_in gs k q ≡ false) at f)
    by false f (Some x) z = z

-- ---- the whole table

pub cells-zeros : (cs : List Cell) → map (λ (h : Held). h.cell) (map zero_held cs) ≡ cs
cells-zeros [] = refl
cells-zeros (c ∷ cs) = ap (λ ds. c ∷ ds) (cells-zeros cs)

pub zeros-ascending : (cs : List Cell) → IsAscending cell_key cs → IsAscending key_of (map zero_held cs)
zeros-ascending [] a = tt
zeros-ascending (c ∷ []) a = tt
zeros-ascending (c ∷ d ∷ cs) a = (a.0, zeros-ascending (d ∷ cs) a.1)

pub zeros-in_range : (cs : List Cell) → All (λ (h : Held). InRange h.number) (map zero_held cs)
zeros-in_range cs = All-map (λ (h : Held). InRange h.number) zero_held cs (λ k d l. zero-in_range)

share-zero : (gs : Groups) (s : CellSum) (c : Cell) → share gs s c (pos 0) ≡ pos 0
share-zero gs (sum.Total u) c = *ℤ-zero (factor gs c u)
share-zero gs (sum.Uses i) c = either (is_used_or_serving i c)
  where
    either : (b : Bool) → (if b then pos 0 else pos 0) ≡ pos 0
    either true = refl
    either false = refl
share-zero gs (sum.Services k) c = either (is_service_of k c)
  where
    either : (b : Bool) → (if b then pos 0 else pos 0) ≡ pos 0
    either true = refl
    either false = refl

zero-shares : (gs : Groups) (s : CellSum) (cs : List Cell) → int_sum_by (λ (h : Held). share gs s h.cell h.number) (map zero_held cs) ≡ pos 0
zero-shares gs s [] = refl
zero-shares gs s (c ∷ cs) = rw (share-zero gs s c, zero-shares gs s cs) refl

-- zeros are the sums of zeros
pub zeros-sums : (t : TableFacts) (cs : List Cell) → t.cells ≡ map zero_held cs → (s : CellSum) (m : BTreeMap CellSum ℤ) → IsZeroFor t.groups t.cells s m → IsSumOf t s m
zeros-sums t cs e s m = by (kept_for m s)
  where
    nothing : sum_at t s ≡ pos 0
    nothing = sum_at-shares t s ∙ ap (int_sum_by (λ (h : Held). share t.groups s h.cell h.number)) e ∙ zero-shares t.groups s cs

    by : (o : Option ℤ) → MatchOption o (All (λ (h : Held). counts_in t.groups h.cell s ≡ false) t.cells) (λ x. x ≡ pos 0) → MatchOption o (All (λ (h : Held). counts_in t.groups h.cell s ≡ false) t.cells) (λ x. x ≡ sum_at t s)
    by None a = a
    by (Some x) z = z ∙ sym nothing

-- one more group
pub group-more : (G : Type 0) (xs gs : List (Option G)) (n : ℕ) (g : Option G) → n < length xs → gs ≡ take n xs → g ≡ group_in (slice_get xs n) → gs ++ g ∷ [] ≡ take (n + 1) xs
group-more G xs gs n g l e f = rw (e, f) (ap (λ o. take n xs ++ group_in o ∷ []) (slice_get-get_or xs n None l) ∙ sym (take_more xs n None l))
