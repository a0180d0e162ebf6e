-- Potentials that show a table show it least.
use Rattle.std.proofs.Common.{◌≡◌, ℕ, ℤ, pos, ◌+ℤ◌, ◌-ℤ◌, ◌*ℤ◌, List, [], ◌∷◌, refl, sym, ◌∙◌, ap, subst, arith, Option, None, Some}
use Rattle.std.specs.Prelude.{find, All}
use Rattle.std.proofs.lemmas.Int.{ints}
use Rattle.sut_measures.specs.Keys.{measure_key}
use Rattle.sut_measures.specs.declared.measures.Measure.{Measure}
use Rattle.sut_tables.specs.RowFacts.{RowFacts}
use Rattle.sut_tables.specs.ProblemFacts.{ProblemFacts}
use Rattle.sut_tables.specs.InOrder.{same_key}
use Rattle.sut_tables.specs.Values.{int_sum_by}
use Rattle.sut_tables.specs.Problems.{IsProblem, groups, live_measures, row_at}
use Rattle.sut_tables.proofs.IntSums.{sum-same}
use Rattle.sut_tables.proofs.Conservation.{Sorted-from_ascending}
use Rattle.std.specs.Prelude.{◌≤ℤ◌}
use Rattle.std.proofs.Math.IntN.{*ℤ-zero}
use Rattle.sut_measures.specs.declared.accounts.Account.{Account}
use Rattle.sut_tables.specs.TableFacts.{TableFacts}
use Rattle.sut_tables.specs.Values.{value_of}
use Rattle.sut_tables.specs.Costs.{IsWithin, IsAdmissible, IsLeast, cost, term}
use Rattle.sut_tables.proofs.Nodes.{sum-sub}
use Rattle.sut_tables.proofs.Conservation.{conservation}
use Rattle.sut_cert.specs.Certificates.{potential_or_zero, rise, RowIsShown, MeasureIsShown, ShowsLeast}
use Rattle.sut_tables.proofs.Lists.{All-among, sum-same-all}
use Rattle.sut_cert.proofs.Rows.{if_row, live-to-rows}
use Rattle.std.specs.Prelude.{◌≤◌, MatchOption, sum_by, neg_ℤ}
use Rattle.std.proofs.lemmas.List.Sums.{sum_by-cons}
use Rattle.std.proofs.lemmas.List.Elements.{All-cons, All-nil}
use Rattle.sut_tables.proofs.IntSums.{sum-*ℤ, neg-*ℤ}
use Rattle.sut_tables.proofs.Ordered.{Sorted, same-refl, After, differ_back}
use Rattle.sut_measures.proofs.KeyLemmas.{measure_key-injective}
use Rattle.sut_tables.specs.InOrder.{same_key}
use Rattle.sut_cert.proofs.Cuts.{sum-order}
use Rattle.sut_cert.proofs.Rows.{AllLive, rows-are-live}
use Rattle.sut_cert.proofs.Convex.{term-convex, tangent}

difference-*ℤ : (a b c : ℤ) → (a -ℤ b) *ℤ c ≡ a *ℤ c -ℤ b *ℤ c
difference-*ℤ a b c = sum-*ℤ a (neg_ℤ b) c ∙ ap (λ z. a *ℤ c +ℤ z) (neg-*ℤ b c)

abbrev pub row_key : RowFacts → List ℕ
row_key r = measure_key r.measure

-- each row is the one that is found for its measure
abbrev pub AllFound : List RowFacts → List RowFacts → Type 0
AllFound whole [] = Unit {0}
AllFound whole (r ∷ rows) =
    (find (λ (s : RowFacts). same_key (measure_key s.measure) (measure_key r.measure)) whole ≡ Some r) × AllFound whole rows

lift : (x : RowFacts) (xs ys : List RowFacts) → After row_key (row_key x) ys → AllFound xs ys → AllFound (x ∷ xs) ys
lift x xs [] a f = tt
lift x xs (y ∷ ys) a f = (rw (differ_back (row_key x) (row_key y) a.0) f.0, lift x xs ys a.1 f.1)

pub all_found : (rows : List RowFacts) → Sorted row_key rows → AllFound rows rows
all_found [] s = tt
all_found (r ∷ rows) s = (rw (same-refl (row_key r)) refl, lift r rows rows s.0 (all_found rows s.1))

pub pos-sum : {X : Type 0} (f : X → ℕ) (xs : List X) → int_sum_by (λ x. pos (f x)) xs ≡ pos (sum_by f xs)
pos-sum f [] = refl
pos-sum f (x ∷ xs) = rw (sum_by-cons f x xs, pos-sum f xs) refl

module _ (p : ProblemFacts) (ok : IsProblem p) (t : TableFacts) (ps : List (Account × ℤ)) (s : ShowsLeast p t ps) where
  abbrev RowShown : RowFacts → Type 0
  RowShown r = RowIsShown r (value_of t r.measure) (rise (groups p) ps r.measure)

  shown_rows : (rows : List RowFacts) → AllLive (live_measures p) rows → AllFound p.rows rows → All RowShown rows
  shown_rows [] a f = All-nil RowShown
  shown_rows (r ∷ rows) a f =
      All-cons RowShown r rows
      (subst (λ o. MatchOption o (rise (groups p) ps r.measure ≡ pos 0) (λ r'. RowIsShown r' (value_of t r.measure) (rise (groups p) ps r.measure))) f.0
      (All-among (MeasureIsShown p t ps) measure_key measure_key-injective r.measure (live_measures p) s.measures a.0))
      (shown_rows rows a.1 f.1)

  least_cost : (u : TableFacts) → IsAdmissible p u → cost p t ≤ cost p u
  least_cost u adm =
      let gs = groups p in
      let at : Account → ℤ = potential_or_zero ps in
      let F : Measure → ℤ = λ m. (value_of u m -ℤ value_of t m) *ℤ rise gs ps m in
      let flows : int_sum_by F (live_measures p) ≡ pos 0 =
      sum-same F (λ m. value_of u m *ℤ rise gs ps m -ℤ value_of t m *ℤ rise gs ps m) (λ m. difference-*ℤ (value_of u m) (value_of t m) (rise gs ps m)) (live_measures p)
      ∙ sum-sub (λ m. value_of u m *ℤ rise gs ps m) (λ m. value_of t m *ℤ rise gs ps m) (live_measures p)
      ∙ nothing (int_sum_by (λ m. value_of u m *ℤ rise gs ps m) (live_measures p)) (int_sum_by (λ m. value_of t m *ℤ rise gs ps m) (live_measures p))
      (conservation p u ok adm.of_problem adm.identities at) (conservation p t ok s.admissible.of_problem s.admissible.identities at) in
      let by_rows : int_sum_by (λ (r : RowFacts). F r.measure) p.rows ≡ pos 0 =
      sym (live-to-rows p ok F)
      ∙ sym (sum-same-all (MeasureIsShown p t ps) F (λ m. if_row F m (row_at p m)) (λ m h. by u m (row_at p m) h) (live_measures p) s.measures)
      ∙ flows in
      let both : All (λ (r : RowFacts). IsWithin u r × RowShown r) p.rows =
      λ k d h. (adm.bounds k d h, shown_rows p.rows (rows-are-live p) (all_found p.rows (Sorted-from_ascending row_key p.rows ok.in_order)) k d h) in
      let order : int_sum_by (λ (r : RowFacts). F r.measure) p.rows ≤ℤ int_sum_by (λ (r : RowFacts). pos (term r (value_of u r.measure)) -ℤ pos (term r (value_of t r.measure))) p.rows =
      sum-order (λ (r : RowFacts). F r.measure) (λ (r : RowFacts). pos (term r (value_of u r.measure)) -ℤ pos (term r (value_of t r.measure))) (λ (r : RowFacts). IsWithin u r × RowShown r)
      (λ r w. tangent (term r) (term-convex r) (value_of t r.measure) (rise gs ps r.measure) r.lower r.upper w.1.up w.1.down (value_of u r.measure) w.0.above w.0.below) p.rows both in
      let costs : int_sum_by (λ (r : RowFacts). pos (term r (value_of u r.measure)) -ℤ pos (term r (value_of t r.measure))) p.rows ≡ pos (cost p u) -ℤ pos (cost p t) =
      sum-sub (λ (r : RowFacts). pos (term r (value_of u r.measure))) (λ (r : RowFacts). pos (term r (value_of t r.measure))) p.rows
      ∙ ap (λ z. z -ℤ int_sum_by (λ (r : RowFacts). pos (term r (value_of t r.measure))) p.rows) (pos-sum (λ (r : RowFacts). term r (value_of u r.measure)) p.rows)
      ∙ ap (λ z. pos (cost p u) -ℤ z) (pos-sum (λ (r : RowFacts). term r (value_of t r.measure)) p.rows) in
      done (int_sum_by (λ (r : RowFacts). F r.measure) p.rows) (cost p t) (cost p u) by_rows
      (subst (λ z. int_sum_by (λ (r : RowFacts). F r.measure) p.rows ≤ℤ z) costs order)
    where
      nothing : (a b : ℤ) → a ≡ pos 0 → b ≡ pos 0 → a -ℤ b ≡ pos 0
      nothing a b h k = omega (arith, ints)

      done : (z : ℤ) (a b : ℕ) → z ≡ pos 0 → z ≤ℤ (pos b -ℤ pos a) → a ≤ b
      done z a b h k = omega (arith, ints)

      by : (u : TableFacts) (m : Measure) (o : Option RowFacts)
          → MatchOption o (rise (groups p) ps m ≡ pos 0) (λ r. RowIsShown r (value_of t m) (rise (groups p) ps m))
          → (value_of u m -ℤ value_of t m) *ℤ rise (groups p) ps m ≡ if_row (λ m. (value_of u m -ℤ value_of t m) *ℤ rise (groups p) ps m) m o
      by u m None h = ap (λ z. (value_of u m -ℤ value_of t m) *ℤ z) h ∙ *ℤ-zero (value_of u m -ℤ value_of t m)
      by u m (Some r) h = refl

-- Potentials that show a table show that no admissible table of the problem costs less.
pub shown-least : (p : ProblemFacts) → IsProblem p → (t : TableFacts) (ps : List (Account × ℤ)) → ShowsLeast p t ps → IsLeast p t
shown-least p ok t ps s = record { admissible = s.admissible; least = least_cost p ok t ps s }
