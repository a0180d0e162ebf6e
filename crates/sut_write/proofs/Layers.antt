-- Values of measures, added up over the places of the classes.
use Rattle.std.proofs.Common.{◌≡◌, ℕ, ◌<◌, ◌≤◌, zero, suc, Bool, true, false, ℤ, pos, ◌+ℤ◌, ◌-ℤ◌, ◌*ℤ◌, List, [], ◌∷◌, length, map, refl, sym, ap, ◌∙◌, arith, add-one}
use Rattle.std.specs.Prelude.{◌==◌, ◌&&◌, All, nat_lt}
use Rattle.std.proofs.lemmas.Bool.{eqb-false, eqb-true, ltb-true}
use Rattle.std.proofs.lemmas.Int.{ints}
use Rattle.std.proofs.lemmas.List.Elements.{All-head, All-tail}
use Rattle.std.proofs.Math.IntN.{zero-*ℤ}
use Rattle.sut_classes.specs.ClassLists.{ClassLists}
use Rattle.sut_classes.specs.Groups.{Groups}
use Rattle.sut_classes.specs.declared.ids.ProductId.{ProductId}
use Rattle.sut_classes.specs.declared.ids.MarginId.{MarginId}
use Rattle.sut_classes.specs.declared.ids.Column.{Column}
use Rattle.sut_classes.specs.declared.ids.Column.TheVariants as column
use Rattle.sut_measures.specs.Fits.{cell_fits, has_column}
use Rattle.sut_measures.specs.Sums.{factor, is_bought, same_cell, same_column}
use Rattle.sut_measures.specs.declared.measures.Cell.{Cell}
use Rattle.sut_measures.specs.declared.measures.Cell.TheVariants as cell
use Rattle.sut_measures.specs.declared.measures.Total.TheVariants as total
use Rattle.sut_measures.specs.declared.measures.Measure.{Measure}
use Rattle.sut_measures.specs.declared.measures.Measure.TheVariants as measure
use Rattle.sut_tables.specs.declared.tables.Held.{Held}
use Rattle.sut_tables.specs.ProblemFacts.{ProblemFacts}
use Rattle.sut_tables.specs.TableFacts.{TableFacts}
use Rattle.sut_tables.specs.Problems.{IsProblem, IsTableOf}
use Rattle.sut_tables.specs.Values.{int_sum_by, sum_where, value_of}
use Rattle.sut_tables.specs.Identities.{MeetsIdentities, is_made_or_imported, is_margin_of, is_service_of, is_used_or_serving, made_and_imported, used_and_serving}
use Rattle.sut_tables.proofs.Conservation.{Sorted-table, part, value-parts}
use Rattle.sut_tables.proofs.FirstBreak.{table-fits}
use Rattle.sut_tables.proofs.IntSums.{sum-append, sum-map, sum-same, sum-swap}
use Rattle.sut_tables.proofs.Nodes.{sum-sub, where_so}
use Rattle.sut_tables.proofs.Paths.{one-*ℤ}
use Rattle.sut_write.specs.Numbers.{net_margin, supply_at_purchasers}
use Rattle.sut_write.specs.Places.{below, columns, margins, products, taxes}
use Rattle.sut_write.proofs.Below.{sum-more}

-- ---- tests

and-left : (a b : Bool) → (a && b) ≡ true → a ≡ true
and-left true b e = refl
and-left false b e = e

and-right : (a b : Bool) → (a && b) ≡ true → b ≡ true
and-right true b e = e
and-right false b e = cc

turned : (a b : Bool) → (a && (b && true)) ≡ (b && a)
turned true true = refl
turned true false = refl
turned false true = refl
turned false false = refl

ended : (a b : Bool) → (a && (b && true)) ≡ (a && b)
ended true true = refl
ended true false = refl
ended false b = refl

and-true : (a : Bool) → (a && true) ≡ a
and-true true = refl
and-true false = refl

and-false : (a : Bool) → (a && false) ≡ false
and-false true = refl
and-false false = refl

-- ---- one place of those below a bound

picked-times : (b : Bool) (x : ℤ) → where_so b (pos 1) *ℤ x ≡ where_so b x
picked-times true x = one-*ℤ x
picked-times false x = zero-*ℤ x

nothing-over : {X : Type 0} (x : ℤ) (xs : List X) → int_sum_by (λ y. pos 0 *ℤ x) xs ≡ pos 0
nothing-over x [] = refl
nothing-over x (y ∷ ys) = rw (zero-*ℤ x, nothing-over x ys) refl

none-over : {X : Type 0} (test : X → Bool) (x : ℤ) → ((y : X) → test y ≡ false) → (xs : List X) → int_sum_by (λ y. where_so (test y) (pos 1) *ℤ x) xs ≡ pos 0
none-over test x e xs =
    sum-same (λ y. where_so (test y) (pos 1) *ℤ x) (λ y. pos 0 *ℤ x) (λ y. ap (λ b. where_so b (pos 1) *ℤ x) (e y)) xs ∙ nothing-over x xs

eq-far : (m n : ℕ) → n < m → (m == n) ≡ false
eq-far m n l = by (m == n) refl
  where
    by : (b : Bool) → (m == n) ≡ b → (m == n) ≡ false
    by true e = absurd (omega (arith, l, eqb-true m n e))
    by false e = e

above : (m : ℕ) (x : ℤ) (n : ℕ) → n ≤ m → int_sum_by (λ k. where_so (m == k) x) (below n) ≡ pos 0
above m x zero l = refl
above m x (suc n) l =
    ap (λ k. int_sum_by (λ k. where_so (m == k) x) (below k)) (sym (add-one n))
    ∙ sum-more (λ k. where_so (m == k) x) n
    ∙ rw (above m x n (omega (arith, l)), eq-far m n (omega (arith, l))) refl

one-below : (m : ℕ) (x : ℤ) (n : ℕ) → m < n → int_sum_by (λ k. where_so (m == k) x) (below n) ≡ x
one-below m x zero l = absurd (omega (arith, l))
one-below m x (suc n) l =
    ap (λ k. int_sum_by (λ k. where_so (m == k) x) (below k)) (sym (add-one n))
    ∙ sum-more (λ k. where_so (m == k) x) n
    ∙ by (one-below m x n) (m == n) refl
  where
    by : (m < n → int_sum_by (λ k. where_so (m == k) x) (below n) ≡ x) → (b : Bool) → (m == n) ≡ b → int_sum_by (λ k. where_so (m == k) x) (below n) +ℤ where_so (m == n) x ≡ x
    by rest true e = rw (e, above m x n (omega (arith, eqb-true m n e))) (omega (arith, ints))
    by rest false e = rw (e, rest (omega (arith, l, eqb-false m n e))) (omega (arith, ints))

picked-by : (test : ℕ → Bool) (m n : ℕ) (b : Bool) (x : ℤ) → ((k : ℕ) → test k ≡ (b && (m == k))) → nat_lt m n ≡ true → int_sum_by (λ k. where_so (test k) (pos 1) *ℤ x) (below n) ≡ where_so b x
picked-by test m n true x e l =
    sum-same (λ k. where_so (test k) (pos 1) *ℤ x) (λ k. where_so (m == k) x) (λ k. ap (λ b. where_so b (pos 1) *ℤ x) (e k) ∙ picked-times (m == k) x) (below n)
    ∙ one-below m x n (ltb-true m n l)
picked-by test m n false x e l = none-over test x e (below n)

-- over all columns: those of industries, and then those of final uses
over-columns : (cs : ClassLists) (f : Column → ℤ) → int_sum_by f (columns cs) ≡ int_sum_by (λ n. f (column.Industry (record { 0 = n }))) (below (length cs.industries)) +ℤ int_sum_by (λ n. f (column.Final (record { 0 = n }))) (below (length cs.finals))
over-columns cs f =
    sum-append f (map column.Industry (map (λ n. record { 0 = n }) (below (length cs.industries)))) (map column.Final (map (λ n. record { 0 = n }) (below (length cs.finals))))
    ∙ (λ i. (sum-map f column.Industry (map (λ n. record { 0 = n }) (below (length cs.industries))) ∙ sum-map (λ j. f (column.Industry j)) (λ n. record { 0 = n }) (below (length cs.industries))) i
    +ℤ (sum-map f column.Final (map (λ n. record { 0 = n }) (below (length cs.finals))) ∙ sum-map (λ g. f (column.Final g)) (λ n. record { 0 = n }) (below (length cs.finals))) i)

abbrev is_at_industry : Column → ℕ → Bool
is_at_industry (column.Industry j) n = j.0 == n
is_at_industry (column.Final f) n = false

abbrev is_at_final : Column → ℕ → Bool
is_at_final (column.Industry j) n = false
is_at_final (column.Final f) n = f.0 == n

column-picked : (cs : ClassLists) (test : Column → Bool) (r : Column) (b : Bool) (x : ℤ)
    → ((n : ℕ) → test (column.Industry (record { 0 = n })) ≡ (b && is_at_industry r n)) → ((n : ℕ) → test (column.Final (record { 0 = n })) ≡ (b && is_at_final r n)) → has_column cs r ≡ true
    → int_sum_by (λ q. where_so (test q) (pos 1) *ℤ x) (columns cs) ≡ where_so b x
column-picked cs test (column.Industry j) b x e f l =
    over-columns cs (λ q. where_so (test q) (pos 1) *ℤ x)
    ∙ rw (picked-by (λ n. test (column.Industry (record { 0 = n }))) j.0 (length cs.industries) b x e l, none-over (λ n. test (column.Final (record { 0 = n }))) x (λ n. f n ∙ and-false b) (below (length cs.finals))) (omega (arith, ints))
column-picked cs test (column.Final g) b x e f l =
    over-columns cs (λ q. where_so (test q) (pos 1) *ℤ x)
    ∙ rw (none-over (λ n. test (column.Industry (record { 0 = n }))) x (λ n. e n ∙ and-false b) (below (length cs.industries)), picked-by (λ n. test (column.Final (record { 0 = n }))) g.0 (length cs.finals) b x f l) (omega (arith, ints))

-- ---- a sum over places is a sum over the cells

sum-fitting : (cs : ClassLists) (f g : Held → ℤ) → ((h : Held) → cell_fits cs h.cell ≡ true → f h ≡ g h) → (hs : List Held) → All (λ (h : Held). cell_fits cs h.cell ≡ true) hs → int_sum_by f hs ≡ int_sum_by g hs
sum-fitting cs f g e [] a = refl
sum-fitting cs f g e (h ∷ hs) a =
    rw (e h (All-head (λ (h : Held). cell_fits cs h.cell ≡ true) h hs a), sum-fitting cs f g e hs (All-tail (λ (h : Held). cell_fits cs h.cell ≡ true) h hs a)) refl

-- the cells that the places' measures hold pass the test
abbrev Holds : {I : Type 0} → ClassLists → Groups → (I → Measure) → List I → (Cell → Bool) → Type 0
Holds cs gs make is p = (c : Cell) (x : ℤ) → cell_fits cs c ≡ true → int_sum_by (λ i. part gs c (make i) *ℤ x) is ≡ where_so (p c) x

margins-of_kind : (cs : ClassLists) (gs : Groups) (k : MarginId) → Holds cs gs (λ i. measure.Total (total.MarginProduct k i)) (products cs) (is_margin_of k)
margins-of_kind cs gs k (cell.Margin l n r) x fit =
    sum-map (λ i. part gs (cell.Margin l n r) (measure.Total (total.MarginProduct k i)) *ℤ x) (λ n. record { 0 = n }) (below (length cs.products))
    ∙ picked-by (λ m. (l.0 == k.0) && (n.0 == m)) n.0 (length cs.products) (l.0 == k.0) x (λ m. refl) (and-right _ _ (and-left _ _ fit))
margins-of_kind cs gs k (cell.Make n j) x fit = nothing-over x (products cs)
margins-of_kind cs gs k (cell.Import n) x fit = nothing-over x (products cs)
margins-of_kind cs gs k (cell.Basic n q) x fit = nothing-over x (products cs)
margins-of_kind cs gs k (cell.Tax u n q) x fit = nothing-over x (products cs)
margins-of_kind cs gs k (cell.Service n l) x fit = nothing-over x (products cs)
margins-of_kind cs gs k (cell.Added v j) x fit = nothing-over x (products cs)

services-of_kind : (cs : ClassLists) (gs : Groups) (k : MarginId) → Holds cs gs (λ i. measure.Cell (cell.Service i k)) (products cs) (is_service_of k)
services-of_kind cs gs k (cell.Service n l) x fit =
    sum-map (λ i. part gs (cell.Service n l) (measure.Cell (cell.Service i k)) *ℤ x) (λ n. record { 0 = n }) (below (length cs.products))
    ∙ picked-by (λ m. (n.0 == m) && ((l.0 == k.0) && true)) n.0 (length cs.products) (l.0 == k.0) x (λ m. turned (n.0 == m) (l.0 == k.0)) (and-left _ _ (and-left _ _ fit))
services-of_kind cs gs k (cell.Make n j) x fit = nothing-over x (products cs)
services-of_kind cs gs k (cell.Import n) x fit = nothing-over x (products cs)
services-of_kind cs gs k (cell.Basic n q) x fit = nothing-over x (products cs)
services-of_kind cs gs k (cell.Margin l n q) x fit = nothing-over x (products cs)
services-of_kind cs gs k (cell.Tax u n q) x fit = nothing-over x (products cs)
services-of_kind cs gs k (cell.Added v j) x fit = nothing-over x (products cs)

-- ---- of one product

abbrev is_margin_on : ProductId → Cell → Bool
is_margin_on i (cell.Margin l n r) = n.0 == i.0
is_margin_on i _ = false

abbrev is_service_by : ProductId → Cell → Bool
is_service_by i (cell.Service n l) = n.0 == i.0
is_service_by i _ = false

abbrev is_tax_on : ProductId → Cell → Bool
is_tax_on i (cell.Tax u n r) = n.0 == i.0
is_tax_on i _ = false

abbrev is_basic_of : ProductId → Cell → Bool
is_basic_of i (cell.Basic n r) = n.0 == i.0
is_basic_of i _ = false

abbrev is_bought_of : ProductId → Cell → Bool
is_bought_of i c = is_bought (λ n. n.0 == i.0) (λ r. true) c

margins-on_product : (cs : ClassLists) (gs : Groups) (i : ProductId) → Holds cs gs (λ k. measure.Total (total.MarginProduct k i)) (margins cs) (is_margin_on i)
margins-on_product cs gs i (cell.Margin l n r) x fit =
    sum-map (λ k. part gs (cell.Margin l n r) (measure.Total (total.MarginProduct k i)) *ℤ x) (λ n. record { 0 = n }) (below (length cs.margins))
    ∙ picked-by (λ m. (l.0 == m) && (n.0 == i.0)) l.0 (length cs.margins) (n.0 == i.0) x (λ m. swapped (l.0 == m) (n.0 == i.0)) (and-left _ _ (and-left _ _ fit))
  where
    swapped : (a b : Bool) → (a && b) ≡ (b && a)
    swapped true b = sym (and-true b)
    swapped false b = sym (and-false b)
margins-on_product cs gs i (cell.Make n j) x fit = nothing-over x (margins cs)
margins-on_product cs gs i (cell.Import n) x fit = nothing-over x (margins cs)
margins-on_product cs gs i (cell.Basic n q) x fit = nothing-over x (margins cs)
margins-on_product cs gs i (cell.Tax u n q) x fit = nothing-over x (margins cs)
margins-on_product cs gs i (cell.Service n l) x fit = nothing-over x (margins cs)
margins-on_product cs gs i (cell.Added v j) x fit = nothing-over x (margins cs)

services-by_product : (cs : ClassLists) (gs : Groups) (i : ProductId) → Holds cs gs (λ k. measure.Cell (cell.Service i k)) (margins cs) (is_service_by i)
services-by_product cs gs i (cell.Service n l) x fit =
    sum-map (λ k. part gs (cell.Service n l) (measure.Cell (cell.Service i k)) *ℤ x) (λ n. record { 0 = n }) (below (length cs.margins))
    ∙ picked-by (λ m. (n.0 == i.0) && ((l.0 == m) && true)) l.0 (length cs.margins) (n.0 == i.0) x (λ m. ended (n.0 == i.0) (l.0 == m)) (and-right _ _ (and-left _ _ fit))
services-by_product cs gs i (cell.Make n j) x fit = nothing-over x (margins cs)
services-by_product cs gs i (cell.Import n) x fit = nothing-over x (margins cs)
services-by_product cs gs i (cell.Basic n q) x fit = nothing-over x (margins cs)
services-by_product cs gs i (cell.Margin l n q) x fit = nothing-over x (margins cs)
services-by_product cs gs i (cell.Tax u n q) x fit = nothing-over x (margins cs)
services-by_product cs gs i (cell.Added v j) x fit = nothing-over x (margins cs)

taxes-on_product : (cs : ClassLists) (gs : Groups) (i : ProductId) → Holds cs gs (λ u. measure.Total (total.TaxProduct u i)) (taxes cs) (is_tax_on i)
taxes-on_product cs gs i (cell.Tax u n r) x fit =
    sum-map (λ w. part gs (cell.Tax u n r) (measure.Total (total.TaxProduct w i)) *ℤ x) (λ n. record { 0 = n }) (below (length cs.taxes))
    ∙ picked-by (λ m. (u.0 == m) && (n.0 == i.0)) u.0 (length cs.taxes) (n.0 == i.0) x (λ m. swapped (u.0 == m) (n.0 == i.0)) (and-left _ _ (and-left _ _ fit))
  where
    swapped : (a b : Bool) → (a && b) ≡ (b && a)
    swapped true b = sym (and-true b)
    swapped false b = sym (and-false b)
taxes-on_product cs gs i (cell.Make n j) x fit = nothing-over x (taxes cs)
taxes-on_product cs gs i (cell.Import n) x fit = nothing-over x (taxes cs)
taxes-on_product cs gs i (cell.Basic n q) x fit = nothing-over x (taxes cs)
taxes-on_product cs gs i (cell.Margin l n q) x fit = nothing-over x (taxes cs)
taxes-on_product cs gs i (cell.Service n l) x fit = nothing-over x (taxes cs)
taxes-on_product cs gs i (cell.Added v j) x fit = nothing-over x (taxes cs)

basics-of_product : (cs : ClassLists) (gs : Groups) (i : ProductId) → Holds cs gs (λ q. measure.Cell (cell.Basic i q)) (columns cs) (is_basic_of i)
basics-of_product cs gs i (cell.Basic n (column.Industry j)) x fit =
    column-picked cs (λ q. same_cell (cell.Basic n (column.Industry j)) (cell.Basic i q)) (column.Industry j) (n.0 == i.0) x (λ m. ended (n.0 == i.0) (j.0 == m)) (λ m. refl) (and-right _ _ fit)
basics-of_product cs gs i (cell.Basic n (column.Final f)) x fit =
    column-picked cs (λ q. same_cell (cell.Basic n (column.Final f)) (cell.Basic i q)) (column.Final f) (n.0 == i.0) x (λ m. refl) (λ m. ended (n.0 == i.0) (f.0 == m)) (and-right _ _ fit)
basics-of_product cs gs i (cell.Make n j) x fit = none-over (λ q. same_cell (cell.Make n j) (cell.Basic i q)) x (λ q. refl) (columns cs)
basics-of_product cs gs i (cell.Import n) x fit = none-over (λ q. same_cell (cell.Import n) (cell.Basic i q)) x (λ q. refl) (columns cs)
basics-of_product cs gs i (cell.Margin l n q) x fit = none-over (λ r. same_cell (cell.Margin l n q) (cell.Basic i r)) x (λ r. refl) (columns cs)
basics-of_product cs gs i (cell.Tax u n q) x fit = none-over (λ r. same_cell (cell.Tax u n q) (cell.Basic i r)) x (λ r. refl) (columns cs)
basics-of_product cs gs i (cell.Service n l) x fit = none-over (λ q. same_cell (cell.Service n l) (cell.Basic i q)) x (λ q. refl) (columns cs)
basics-of_product cs gs i (cell.Added v j) x fit = none-over (λ q. same_cell (cell.Added v j) (cell.Basic i q)) x (λ q. refl) (columns cs)

-- a part of a purchase of the product stands in one of its purchases
in-one_column : (cs : ClassLists) (i n : ProductId) (r : Column) (x : ℤ) → has_column cs r ≡ true → int_sum_by (λ q. where_so ((n.0 == i.0) && same_column r q) (pos 1) *ℤ x) (columns cs) ≡ where_so ((n.0 == i.0) && true) x
in-one_column cs i n (column.Industry j) x fit =
    column-picked cs (λ q. (n.0 == i.0) && same_column (column.Industry j) q) (column.Industry j) (n.0 == i.0) x (λ m. refl) (λ m. refl) fit ∙ ap (λ b. where_so b x) (sym (and-true (n.0 == i.0)))
in-one_column cs i n (column.Final f) x fit =
    column-picked cs (λ q. (n.0 == i.0) && same_column (column.Final f) q) (column.Final f) (n.0 == i.0) x (λ m. refl) (λ m. refl) fit ∙ ap (λ b. where_so b x) (sym (and-true (n.0 == i.0)))

purchases-of_product : (cs : ClassLists) (gs : Groups) (i : ProductId) → Holds cs gs (λ q. measure.Total (total.Purchase i q)) (columns cs) (is_bought_of i)
purchases-of_product cs gs i (cell.Basic n r) x fit = in-one_column cs i n r x (and-right _ _ fit)
purchases-of_product cs gs i (cell.Margin l n r) x fit = in-one_column cs i n r x (and-right _ _ fit)
purchases-of_product cs gs i (cell.Tax u n r) x fit = in-one_column cs i n r x (and-right _ _ fit)
purchases-of_product cs gs i (cell.Make n j) x fit = nothing-over x (columns cs)
purchases-of_product cs gs i (cell.Import n) x fit = nothing-over x (columns cs)
purchases-of_product cs gs i (cell.Service n l) x fit = nothing-over x (columns cs)
purchases-of_product cs gs i (cell.Added v j) x fit = nothing-over x (columns cs)

supplied-part : (gs : Groups) (i : ProductId) (c : Cell) (x : ℤ) → factor gs c (total.Supply i) *ℤ x ≡ where_so (is_made_or_imported i c) x
supplied-part gs i (cell.Make n j) x = picked-times (n.0 == i.0) x
supplied-part gs i (cell.Import n) x = picked-times (n.0 == i.0) x
supplied-part gs i (cell.Basic n q) x = zero-*ℤ x
supplied-part gs i (cell.Margin k n q) x = zero-*ℤ x
supplied-part gs i (cell.Tax u n q) x = zero-*ℤ x
supplied-part gs i (cell.Service n k) x = zero-*ℤ x
supplied-part gs i (cell.Added v j) x = zero-*ℤ x

supply-made : (t : TableFacts) (i : ProductId) → value_of t (measure.Total (total.Supply i)) ≡ made_and_imported t i
supply-made t i =
    sum-same (λ (h : Held). factor t.groups h.cell (total.Supply i) *ℤ h.number) (λ (h : Held). where_so (is_made_or_imported i h.cell) h.number) (λ h. supplied-part t.groups i h.cell h.number) t.cells

-- ---- the layers of a price

priced : (i : ProductId) (c : Cell) (x : ℤ) → where_so (is_bought_of i c) x ≡ (where_so (is_used_or_serving i c) x +ℤ (where_so (is_margin_on i c) x -ℤ where_so (is_service_by i c) x)) +ℤ where_so (is_tax_on i c) x
priced i (cell.Basic n r) x = rw (and-true (n.0 == i.0)) (omega (arith, ints))
priced i (cell.Margin k n r) x = rw (and-true (n.0 == i.0)) (omega (arith, ints))
priced i (cell.Tax u n r) x = rw (and-true (n.0 == i.0)) (omega (arith, ints))
priced i (cell.Service n k) x = omega (arith, ints)
priced i (cell.Make n j) x = refl
priced i (cell.Import n) x = refl
priced i (cell.Added v j) x = refl

all-priced : (i : ProductId) (hs : List Held) → sum_where (is_bought_of i) hs ≡ (sum_where (is_used_or_serving i) hs +ℤ (sum_where (is_margin_on i) hs -ℤ sum_where (is_service_by i) hs)) +ℤ sum_where (is_tax_on i) hs
all-priced i [] = refl
all-priced i (h ∷ hs) = omega (arith, ints, priced i h.cell h.number, all-priced i hs)

served : (i : ProductId) (c : Cell) (x : ℤ) → where_so (is_used_or_serving i c) x ≡ where_so (is_basic_of i c) x +ℤ where_so (is_service_by i c) x
served i (cell.Basic n r) x = omega (arith, ints)
served i (cell.Service n k) x = omega (arith, ints)
served i (cell.Margin k n r) x = refl
served i (cell.Tax u n r) x = refl
served i (cell.Make n j) x = refl
served i (cell.Import n) x = refl
served i (cell.Added v j) x = refl

all-served : (i : ProductId) (hs : List Held) → sum_where (is_used_or_serving i) hs ≡ sum_where (is_basic_of i) hs +ℤ sum_where (is_service_by i) hs
all-served i [] = refl
all-served i (h ∷ hs) = omega (arith, ints, served i h.cell h.number, all-served i hs)

-- ---- of a table of a problem

module _ (p : ProblemFacts) (t : TableFacts) (ok : IsProblem p) (of : IsTableOf p t) where
  over-cells : {I : Type 0} (make : I → Measure) (is : List I) (test : Cell → Bool) → Holds p.classes t.groups make is test → int_sum_by (λ i. value_of t (make i)) is ≡ sum_where test t.cells
  over-cells make is test holds =
      sum-same (λ i. value_of t (make i)) (λ i. int_sum_by (λ (h : Held). part t.groups h.cell (make i) *ℤ h.number) t.cells) (λ i. value-parts t (Sorted-table p t ok of) (make i)) is
      ∙ sum-swap (λ i (h : Held). part t.groups h.cell (make i) *ℤ h.number) is t.cells
      ∙ sum-fitting p.classes (λ (h : Held). int_sum_by (λ i. part t.groups h.cell (make i) *ℤ h.number) is) (λ (h : Held). where_so (test h.cell) h.number) (λ h fit. holds h.cell h.number fit) t.cells (table-fits p t ok of)

  -- what is used of a product: its basics of industries, those of final uses, and its services
  pub used-parts : (i : ProductId)
      → used_and_serving t i
      ≡ (int_sum_by (λ n. value_of t (measure.Cell (cell.Basic i (column.Industry (record { 0 = n }))))) (below (length p.classes.industries))
      +ℤ int_sum_by (λ n. value_of t (measure.Cell (cell.Basic i (column.Final (record { 0 = n }))))) (below (length p.classes.finals)))
      +ℤ int_sum_by (λ k. value_of t (measure.Cell (cell.Service i k))) (margins p.classes)
  used-parts i =
      all-served i t.cells
      ∙ (λ d. sym (over-cells (λ q. measure.Cell (cell.Basic i q)) (columns p.classes) (is_basic_of i) (basics-of_product p.classes t.groups i)) d
      +ℤ sym (over-cells (λ k. measure.Cell (cell.Service i k)) (margins p.classes) (is_service_by i) (services-by_product p.classes t.groups i)) d)
      ∙ ap (λ z. z +ℤ int_sum_by (λ k. value_of t (measure.Cell (cell.Service i k))) (margins p.classes)) (over-columns p.classes (λ q. value_of t (measure.Cell (cell.Basic i q))))

  -- the net margins of a kind add up to nothing
  pub no-net_margins : MeetsIdentities t → (k : MarginId) → int_sum_by (λ i. net_margin t k i) (products p.classes) ≡ pos 0
  no-net_margins meets k =
      let charged = over-cells (λ i. measure.Total (total.MarginProduct k i)) (products p.classes) (is_margin_of k) (margins-of_kind p.classes t.groups k) in
      let offered = over-cells (λ i. measure.Cell (cell.Service i k)) (products p.classes) (is_service_of k) (services-of_kind p.classes t.groups k) in
      sum-sub (λ i. value_of t (measure.Total (total.MarginProduct k i))) (λ i. value_of t (measure.Cell (cell.Service i k))) (products p.classes)
      ∙ rw (charged, offered, meets.margins k) (omega (arith, ints))

  -- a product's supply at purchasers' prices is what its purchases are
  pub purchased : MeetsIdentities t → (i : ProductId) → supply_at_purchasers p.classes t i ≡ int_sum_by (λ q. value_of t (measure.Total (total.Purchase i q))) (columns p.classes)
  purchased meets i =
      let bought = over-cells (λ q. measure.Total (total.Purchase i q)) (columns p.classes) (is_bought_of i) (purchases-of_product p.classes t.groups i) in
      let charged = over-cells (λ k. measure.Total (total.MarginProduct k i)) (margins p.classes) (is_margin_on i) (margins-on_product p.classes t.groups i) in
      let offered = over-cells (λ k. measure.Cell (cell.Service i k)) (margins p.classes) (is_service_by i) (services-by_product p.classes t.groups i) in
      let taxed = over-cells (λ u. measure.Total (total.TaxProduct u i)) (taxes p.classes) (is_tax_on i) (taxes-on_product p.classes t.groups i) in
      let supplied = supply-made t i ∙ meets.products i in
      let net = sum-sub (λ k. value_of t (measure.Total (total.MarginProduct k i))) (λ k. value_of t (measure.Cell (cell.Service i k))) (margins p.classes) ∙ (λ d. charged d -ℤ offered d) in
      (λ d. (supplied d +ℤ net d) +ℤ taxed d) ∙ sym (all-priced i t.cells) ∙ sym bought
