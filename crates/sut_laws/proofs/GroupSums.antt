-- The total of a group is the sum over its members.
use Rattle.std.proofs.Common.{◌≡◌, ℕ, Bool, true, false, ℤ, pos, ◌*ℤ◌, length, map, refl, sym, ap, ◌∙◌}
use Rattle.std.specs.Prelude.{◌==◌, ◌&&◌, filter, nat_lt}
use Rattle.std.proofs.lemmas.Bool.{eqb-true}
use Rattle.std.proofs.Math.IntN.{zero-*ℤ}
use Rattle.sut_classes.specs.ClassLists.{ClassLists}
use Rattle.sut_classes.specs.Groups.{groups_of}
use Rattle.sut_classes.specs.declared.ids.Column.{Column}
use Rattle.sut_classes.specs.declared.ids.IndustryGroupId.{IndustryGroupId}
use Rattle.sut_classes.specs.declared.ids.IndustryId.{IndustryId}
use Rattle.sut_classes.specs.declared.ids.ItemId.{ItemId}
use Rattle.sut_classes.specs.declared.ids.MarginId.{MarginId}
use Rattle.sut_classes.specs.declared.ids.ProductGroupId.{ProductGroupId}
use Rattle.sut_classes.specs.declared.ids.ProductId.{ProductId}
use Rattle.sut_classes.specs.declared.ids.TaxId.{TaxId}
use Rattle.sut_measures.specs.Sums.{is_in, is_industry_in, same_column}
use Rattle.sut_measures.specs.declared.measures.Cell.TheVariants as cell
use Rattle.sut_measures.specs.declared.measures.Measure.TheVariants as measure
use Rattle.sut_measures.specs.declared.measures.Total.TheVariants as total
use Rattle.sut_tables.specs.Values.{int_sum_by}
use Rattle.sut_tables.proofs.IntSums.{sum-same}
use Rattle.sut_tables.proofs.Nodes.{where_so}
use Rattle.sut_write.specs.Places.{below}
use Rattle.sut_laws.specs.Balances.{GroupSums, industries_in, products_in}
use Rattle.sut_laws.proofs.PlaceSums.{Counts, and-false, and-left, and-right, and-true, and-turned, nothing-over, picked, picked-times, sum-filter, total-of_places}

-- a test of places, taken at one place
at-place : (member : ℕ → Bool) (n k : ℕ) (r : Bool) → (member k && ((n == k) && r)) ≡ ((member n && r) && (n == k))
at-place member n k r = by (n == k) refl
  where
    by : (b : Bool) → (n == k) ≡ b → (member k && (b && r)) ≡ ((member n && r) && b)
    by true e = ap (λ m. member m && r) (sym (eqb-true n k e)) ∙ sym (and-true (member n && r))
    by false e = and-false (member k) ∙ sym (and-false (member n && r))

both-tests : (a b : Bool) (x : ℤ) → where_so a (where_so b (pos 1) *ℤ x) ≡ where_so (a && b) (pos 1) *ℤ x
both-tests true b x = refl
both-tests false b x = sym (zero-*ℤ x)

-- among the members of a group one place is taken, where it is a member and the rest of the test holds
module _ (I : Type 0) (make : ℕ → I) (member : I → Bool) where
  member-picked : (test : I → Bool) (m n : ℕ) (r : Bool) (x : ℤ) → ((k : ℕ) → test (make k) ≡ ((m == k) && r)) → nat_lt m n ≡ true
      → int_sum_by (λ i. where_so (test i) (pos 1) *ℤ x) (filter member (map make (below n))) ≡ where_so (member (make m) && r) x
  member-picked test m n r x e l =
      sum-filter member (λ i. where_so (test i) (pos 1) *ℤ x) (map make (below n))
      ∙ sum-same (λ i. where_so (member i) (where_so (test i) (pos 1) *ℤ x)) (λ i. where_so (member i && test i) (pos 1) *ℤ x) (λ i. both-tests (member i) (test i) x) (map make (below n))
      ∙ picked I make (λ i. member i && test i) m n (member (make m) && r) x (λ k. ap (λ b. member (make k) && b) (e k) ∙ at-place (λ k. member (make k)) m k r) l

module _ (cs : ClassLists) (g : ProductGroupId) where
  abbrev in_group : ProductId → Bool
  in_group i = is_in (groups_of cs) i g

  -- one member of the group of products
  one : (test : ProductId → Bool) (n : ProductId) (r : Bool) (x : ℤ) → ((k : ℕ) → test (record { 0 = k }) ≡ ((n.0 == k) && r)) → nat_lt n.0 (length cs.products) ≡ true
      → where_so (in_group n && r) (pos 1) *ℤ x ≡ int_sum_by (λ i. where_so (test i) (pos 1) *ℤ x) (products_in cs g)
  one test n r x e l =
      picked-times (in_group n && r) x ∙ sym (member-picked ProductId (λ k. record { 0 = k }) in_group test n.0 (length cs.products) r x e l)

  nothing : (x : ℤ) → pos 0 *ℤ x ≡ int_sum_by (λ (i : ProductId). pos 0 *ℤ x) (products_in cs g)
  nothing x = zero-*ℤ x ∙ sym (nothing-over x (products_in cs g))

  makes : (j : IndustryId) → Counts cs (groups_of cs) (total.MakeGroup g j) (λ i. measure.Cell (cell.Make i j)) (products_in cs g)
  makes j (cell.Make n m) x fit =
      ap (λ b. where_so (in_group n && b) (pos 1) *ℤ x) (sym (and-true (m.0 == j.0)))
      ∙ one (λ i. (n.0 == i.0) && ((m.0 == j.0) && true)) n ((m.0 == j.0) && true) x (λ k. refl) (and-left _ _ fit)
  makes j c x fit = nothing x

  imports : Counts cs (groups_of cs) (total.ImportGroup g) (λ i. measure.Cell (cell.Import i)) (products_in cs g)
  imports (cell.Import n) x fit =
      ap (λ b. where_so b (pos 1) *ℤ x) (sym (and-true (in_group n))) ∙ one (λ i. (n.0 == i.0) && true) n true x (λ k. refl) fit
  imports c x fit = nothing x

  purchases : (q : Column) → Counts cs (groups_of cs) (total.PurchaseGroup g q) (λ i. measure.Total (total.Purchase i q)) (products_in cs g)
  purchases q (cell.Basic n r) x fit = one (λ i. (n.0 == i.0) && same_column r q) n (same_column r q) x (λ k. refl) (and-left _ _ fit)
  purchases q (cell.Margin l n r) x fit = one (λ i. (n.0 == i.0) && same_column r q) n (same_column r q) x (λ k. refl) (and-right _ _ (and-left _ _ fit))
  purchases q (cell.Tax u n r) x fit = one (λ i. (n.0 == i.0) && same_column r q) n (same_column r q) x (λ k. refl) (and-right _ _ (and-left _ _ fit))
  purchases q c x fit = nothing x

  margins : (k : MarginId) → Counts cs (groups_of cs) (total.MarginGroup k g) (λ i. measure.Total (total.MarginProduct k i)) (products_in cs g)
  margins k (cell.Margin l n r) x fit =
      ap (λ b. where_so b (pos 1) *ℤ x) (and-turned (l.0 == k.0) (in_group n))
      ∙ one (λ i. (l.0 == k.0) && (n.0 == i.0)) n (l.0 == k.0) x (λ m. and-turned (l.0 == k.0) (n.0 == m)) (and-right _ _ (and-left _ _ fit))
  margins k c x fit = nothing x

  taxes : (w : TaxId) → Counts cs (groups_of cs) (total.TaxGroup w g) (λ i. measure.Total (total.TaxProduct w i)) (products_in cs g)
  taxes w (cell.Tax u n r) x fit =
      ap (λ b. where_so b (pos 1) *ℤ x) (and-turned (u.0 == w.0) (in_group n))
      ∙ one (λ i. (u.0 == w.0) && (n.0 == i.0)) n (u.0 == w.0) x (λ m. and-turned (u.0 == w.0) (n.0 == m)) (and-right _ _ (and-left _ _ fit))
  taxes w c x fit = nothing x

added : (cs : ClassLists) (v : ItemId) (h : IndustryGroupId) → Counts cs (groups_of cs) (total.ItemGroup v h) (λ j. measure.Cell (cell.Added v j)) (industries_in cs h)
added cs v h (cell.Added w j) x fit =
    let member : IndustryId → Bool = λ j. is_industry_in (groups_of cs) j h in
    ap (λ b. where_so b (pos 1) *ℤ x) (and-turned (w.0 == v.0) (member j))
    ∙ picked-times (member j && (w.0 == v.0)) x
    ∙ sym (member-picked IndustryId (λ k. record { 0 = k }) member (λ i. (w.0 == v.0) && ((j.0 == i.0) && true)) j.0 (length cs.industries) (w.0 == v.0) x
    (λ k. ap (λ b. (w.0 == v.0) && b) (and-true (j.0 == k)) ∙ and-turned (w.0 == v.0) (j.0 == k)) (and-right _ _ fit))
added cs v h c x fit = zero-*ℤ x ∙ sym (nothing-over x (industries_in cs h))

pub group-sums : GroupSums
group-sums p t ok of =
    let cs = p.classes in (
      λ g j. total-of_places p t ok of (total.MakeGroup g j) (λ i. measure.Cell (cell.Make i j)) (products_in cs g) (makes cs g j),
      λ g. total-of_places p t ok of (total.ImportGroup g) (λ i. measure.Cell (cell.Import i)) (products_in cs g) (imports cs g),
      λ g q. total-of_places p t ok of (total.PurchaseGroup g q) (λ i. measure.Total (total.Purchase i q)) (products_in cs g) (purchases cs g q),
      λ k g. total-of_places p t ok of (total.MarginGroup k g) (λ i. measure.Total (total.MarginProduct k i)) (products_in cs g) (margins cs g k),
      λ x g. total-of_places p t ok of (total.TaxGroup x g) (λ i. measure.Total (total.TaxProduct x i)) (products_in cs g) (taxes cs g x),
      λ v h. total-of_places p t ok of (total.ItemGroup v h) (λ j. measure.Cell (cell.Added v j)) (industries_in cs h) (added cs v h),
    )
