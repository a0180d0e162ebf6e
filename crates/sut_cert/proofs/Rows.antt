-- From sums over the live measures to sums over the rows.
use Rattle.std.proofs.Common.{◌≡◌, ℕ, ℤ, pos, ◌+ℤ◌, List, [], ◌∷◌, ◌++◌, refl, sym, ◌∙◌, ap, subst, arith, Bool, true, false, Option, None, Some}
use Rattle.std.specs.Prelude.{if◌then◌else◌, find}
use Rattle.std.specs.List.{flat_map}
use Rattle.std.proofs.lemmas.Int.{ints}
use Rattle.sut_measures.specs.Keys.{measure_key}
use Rattle.sut_measures.proofs.KeyLemmas.{measure_key-injective}
use Rattle.sut_measures.specs.declared.measures.Measure.{Measure}
use Rattle.sut_measures.specs.declared.measures.Measure.TheVariants as measure
use Rattle.sut_tables.specs.RowFacts.{RowFacts}
use Rattle.sut_tables.specs.ProblemFacts.{ProblemFacts}
use Rattle.sut_tables.specs.InOrder.{same_key}
use Rattle.sut_tables.specs.Values.{int_sum_by}
use Rattle.sut_tables.specs.Problems.{IsProblem, groups, made_live, live_measures, row_at}
use Rattle.sut_tables.proofs.IntSums.{sum-same, sum-swap}
use Rattle.sut_tables.proofs.Ordered.{among, After, Sorted, among-in_order, one_picked, none_picked, same-eq, same-refl, same-flip}
use Rattle.sut_tables.proofs.Nodes.{where_so}
use Rattle.sut_tables.proofs.Lists.{among-append_right}
use Rattle.sut_tables.proofs.Conservation.{Sorted-from_ascending, live-sorted}

abbrev row_key : RowFacts → List ℕ
row_key r = measure_key r.measure

-- a number of a measure where it has a row, and else 0
abbrev pub if_row : (Measure → ℤ) → Measure → Option RowFacts → ℤ
if_row F m None = pos 0
if_row F m (Some r) = F m

rows-pick : (F : Measure → ℤ) (m : Measure) (rows : List RowFacts) → Sorted row_key rows
    → int_sum_by (λ (r : RowFacts). where_so (same_key (measure_key m) (measure_key r.measure)) (F r.measure)) rows
    ≡ if_row F m (find (λ (r : RowFacts). same_key (measure_key r.measure) (measure_key m)) rows)
rows-pick F m [] s = refl
rows-pick F m (r ∷ rows) s = by (rows-pick F m rows s.1) (same_key (measure_key r.measure) (measure_key m)) refl
  where
    rest : ℤ
    rest = int_sum_by (λ (r : RowFacts). where_so (same_key (measure_key m) (measure_key r.measure)) (F r.measure)) rows

    none : measure_key r.measure ≡ measure_key m → int_sum_by (λ (r : RowFacts). where_so (same_key (measure_key m) (measure_key r.measure)) (F r.measure)) rows ≡ pos 0
    none e =
        sum-same (λ (r : RowFacts). where_so (same_key (measure_key m) (measure_key r.measure)) (F r.measure)) (λ (r : RowFacts). where_so (same_key (measure_key r.measure) (measure_key m)) (F r.measure)) (λ r. ap (λ b. where_so b (F r.measure)) (same-flip (measure_key m) (measure_key r.measure))) rows
        ∙ none_picked row_key (λ (r : RowFacts). F r.measure) (measure_key m) rows (subst (λ k. After row_key k rows) e s.0)

    by : int_sum_by (λ (r : RowFacts). where_so (same_key (measure_key m) (measure_key r.measure)) (F r.measure)) rows ≡ if_row F m (find (λ (r : RowFacts). same_key (measure_key r.measure) (measure_key m)) rows)
        → (b : Bool) → same_key (measure_key r.measure) (measure_key m) ≡ b
        → where_so (same_key (measure_key m) (measure_key r.measure)) (F r.measure) +ℤ int_sum_by (λ (r : RowFacts). where_so (same_key (measure_key m) (measure_key r.measure)) (F r.measure)) rows
        ≡ if_row F m (if b then Some r else find (λ (r : RowFacts). same_key (measure_key r.measure) (measure_key m)) rows)
    by later true e =
        rw (same-flip (measure_key m) (measure_key r.measure), e, none (same-eq (measure_key r.measure) (measure_key m) e), measure_key-injective r.measure m (same-eq (measure_key r.measure) (measure_key m) e))
        (omega (arith, ints))
    by later false e = rw (same-flip (measure_key m) (measure_key r.measure), e) (later_sum later)
      where
        later_sum : {x y : ℤ} → x ≡ y → pos 0 +ℤ x ≡ y
        later_sum e = omega (arith, ints)

-- every row's measure is live
abbrev pub AllLive : List Measure → List RowFacts → Type 0
AllLive zs [] = Unit {0}
AllLive zs (r ∷ rows) = (among measure_key (measure_key r.measure) zs ≡ true) × AllLive zs rows

among-first : (m : Measure) (gs : _) (ys : List Measure) → among measure_key (measure_key m) (made_live gs m ++ ys) ≡ true
among-first (measure.Cell c) gs ys = rw (same-refl (measure_key (measure.Cell c))) refl
among-first (measure.Total u) gs ys = rw (same-refl (measure_key (measure.Total u))) refl

all_live : (gs : _) (zs : List Measure) (rows : List RowFacts)
    → ((k : List ℕ) → among measure_key k (flat_map (λ (r : RowFacts). made_live gs r.measure) rows) ≡ true → among measure_key k zs ≡ true)
    → AllLive zs rows
all_live gs zs [] f = tt
all_live gs zs (r ∷ rows) f = (
  f (measure_key r.measure) (among-first r.measure gs (flat_map (λ (r : RowFacts). made_live gs r.measure) rows)),
  all_live gs zs rows (λ k h. f k (among-append_right measure_key k (made_live gs r.measure) (flat_map (λ (r : RowFacts). made_live gs r.measure) rows) h)),
)

pick-live : (F : Measure → ℤ) (zs : List Measure) → Sorted measure_key zs → (rows : List RowFacts) → AllLive zs rows
    → int_sum_by (λ (r : RowFacts). int_sum_by (λ m. where_so (same_key (measure_key m) (measure_key r.measure)) (F r.measure)) zs) rows ≡ int_sum_by (λ (r : RowFacts). F r.measure) rows
pick-live F zs s [] a = refl
pick-live F zs s (r ∷ rows) a =
    rw (one_picked measure_key measure_key-injective (λ m. F r.measure) r.measure zs s a.0, pick-live F zs s rows a.1) refl

pub rows-are-live : (p : ProblemFacts) → AllLive (live_measures p) p.rows
rows-are-live p =
    all_live (groups p) (live_measures p) p.rows (λ k. among-in_order measure_key k (flat_map (λ (r : RowFacts). made_live (groups p) r.measure) p.rows))

-- A sum over the live measures that have a row is the sum over the rows.
pub live-to-rows : (p : ProblemFacts) → IsProblem p → (F : Measure → ℤ)
    → int_sum_by (λ m. if_row F m (row_at p m)) (live_measures p) ≡ int_sum_by (λ (r : RowFacts). F r.measure) p.rows
live-to-rows p ok F =
    sum-same (λ m. if_row F m (row_at p m)) (λ m. int_sum_by (λ (r : RowFacts). where_so (same_key (measure_key m) (measure_key r.measure)) (F r.measure)) p.rows)
    (λ m. sym (rows-pick F m p.rows (Sorted-from_ascending row_key p.rows ok.in_order))) (live_measures p)
    ∙ sum-swap (λ m (r : RowFacts). where_so (same_key (measure_key m) (measure_key r.measure)) (F r.measure)) (live_measures p) p.rows
    ∙ pick-live F (live_measures p) (live-sorted p) p.rows (rows-are-live p)
