-- The text of a balanced table has at most 67,108,864 bytes.
use Rattle.std.proofs.Common.{◌≡◌, cond, ℕ, suc, ◌+◌, ◌*◌, ◌^◌, ◌<◌, ◌≤◌, ℤ, pos, negsuc, neg_ℤ, ◌≤ℤ◌, List, [], ◌∷◌, ◌++◌, Bool, true, false, length, map, Option, Some, None, refl, sym, ap, subst, ◌∙◌, arith, length-append}
use Rattle.std.specs.Prelude.{All, find}
use Rattle.std.specs.List.{filter_map, flat_map}
use Rattle.std.proofs.lemmas.Fmt.{length-decimal-le_wide}
use Rattle.std.proofs.lemmas.Int.{ints}
use Rattle.std.proofs.lemmas.List.{length-map}
use Rattle.std.proofs.lemmas.List.Concat.{length-flat_map}
use Rattle.std.proofs.lemmas.List.Elements.{All-cons, All-head, All-map, All-nil, All-tail}
use Rattle.std.proofs.lemmas.List.Sums.{sum_by-le}
use Rattle.sut_text.specs.Text.{file_text, line_text, optional_text, whole_text}
use Rattle.sut_classes.specs.ClassLists.{ClassLists}
use Rattle.sut_classes.specs.Kept.{IsClasses}
use Rattle.sut_classes.specs.declared.ids.Axis.TheVariants as axis
use Rattle.sut_measures.specs.Fits.{fits, total_fits}
use Rattle.sut_measures.specs.Keys.{measure_key, total_key}
use Rattle.sut_measures.specs.Names.{Name, measure_name}
use Rattle.sut_measures.specs.declared.measures.Cell.{Cell}
use Rattle.sut_measures.specs.declared.measures.Cell.TheVariants as cell
use Rattle.sut_measures.specs.declared.measures.Total.{Total}
use Rattle.sut_measures.specs.declared.measures.Total.TheVariants as total
use Rattle.sut_measures.specs.declared.measures.Measure.{Measure}
use Rattle.sut_measures.specs.declared.measures.Measure.TheVariants as measure
use Rattle.sut_tables.specs.CellSums.{IsUpTo}
use Rattle.sut_tables.specs.ProblemFacts.{ProblemFacts}
use Rattle.sut_tables.specs.ProblemRules.{IsKept}
use Rattle.sut_tables.specs.Problems.{IsTableOf, cell_rows, live_measures, row_at}
use Rattle.sut_tables.specs.RowFacts.{RowFacts}
use Rattle.sut_tables.specs.Rows.{InRange, IsAim, IsRow}
use Rattle.sut_tables.specs.TableFacts.{TableFacts}
use Rattle.sut_tables.specs.Values.{value_of}
use Rattle.sut_tables.specs.declared.rows.Penalty.{Penalty}
use Rattle.sut_tables.specs.declared.tables.Held.{Held}
use Rattle.sut_tables.proofs.Conservation.{live-sorted}
use Rattle.sut_tables.proofs.LiveFits.{live-fits}
use Rattle.sut_tables.proofs.Ordered.{After, Sorted}
use Rattle.sut_tables.proofs.Wide.{few-rows}
use Rattle.sut_cert.proofs.ClassFacts.{groups-there}
use Rattle.sut_cert.proofs.TextLength.{short-column, short-place}
use Rattle.sut_readback.specs.BalancedText.{balanced_header, balanced_line, balanced_lines, balanced_text, target_in, target_text}
use Rattle.sut_readback.specs.ReadingView.{total_in}
use Rattle.sut_readback.proofs.Bounds.{cells-few, value-up_to}
use Rattle.sut_readback.proofs.LiveParts.{live-parts}
use Rattle.sut_write.proofs.FewTotals.{few-totals}

-- ---- numbers

value-short : (z : ℤ) → IsUpTo (2 ^ 58) z → length (whole_text z) ≤ 19
value-short (pos n) r =
    let high : pos n ≤ℤ pos (2 ^ 58) = r.high in
    let small : n ≤ 288230376151711744 = omega (arith, ints) in
    let short = length-decimal-le_wide 18 n (omega arith) (omega arith) (omega arith) in omega arith
value-short (negsuc n) r =
    let low : neg_ℤ (pos (2 ^ 58)) ≤ℤ negsuc n = r.low in
    let small : suc n ≤ 288230376151711744 = omega (arith, ints) in
    let short = length-decimal-le_wide 18 (suc n) (omega arith) (omega arith) (omega arith) in omega arith

pub range-short : (z : ℤ) → InRange z → length (whole_text z) ≤ 19
range-short z r = value-short z (record { low = low r.low; high = high r.high })
  where
    low : neg_ℤ (pos 1000000000000) ≤ℤ z → neg_ℤ (pos (2 ^ 58)) ≤ℤ z
    low h = omega (arith, ints)

    high : z ≤ℤ pos 1000000000000 → z ≤ℤ pos (2 ^ 58)
    high h = omega (arith, ints)

pub aim-short : (o : Option ℤ) (penalty : Penalty) (grade weight : ℕ) → IsAim o penalty grade weight → length (optional_text o) ≤ 19
aim-short None penalty grade weight aim = omega arith
aim-short (Some x) penalty grade weight aim = range-short x aim.0

found-short : (q : RowFacts → Bool) (rows : List RowFacts) → All IsRow rows → length (optional_text (target_in (find q rows))) ≤ 19
found-short q [] all = omega arith
found-short q (r ∷ rows) all =
    by (q r) (aim-short r.target r.penalty r.grade r.weight (All-head IsRow r rows all).aim) (found-short q rows (All-tail IsRow r rows all))
  where
    by : (b : Bool) → length (optional_text r.target) ≤ 19 → length (optional_text (target_in (find q rows))) ≤ 19 → length (optional_text (target_in (cond b (Some r) (find q rows)))) ≤ 19
    by true here rest = here
    by false here rest = rest

-- ---- lines

pub record IsShort (n : Name) : Type 0 where
  pub kind : length n.kind ≤ 14
  pub a : length n.a ≤ 32
  pub b : length n.b ≤ 32
  pub c : length n.c ≤ 32

none : length {A = ℕ} [] ≤ 32
none = omega arith

cell-short : (cs : ClassLists) → IsClasses cs → (c : Cell) → IsShort (measure_name cs (measure.Cell c))
cell-short cs k (cell.Make i j) = record { kind = omega arith; a = short-place cs k axis.Product i.0; b = short-place cs k axis.Industry j.0; c = none }
cell-short cs k (cell.Import i) = record { kind = omega arith; a = short-place cs k axis.Product i.0; b = none; c = none }
cell-short cs k (cell.Basic i q) = record { kind = omega arith; a = short-place cs k axis.Product i.0; b = short-column cs k q; c = none }
cell-short cs k (cell.Margin m i q) = record { kind = omega arith; a = short-place cs k axis.Margin m.0; b = short-place cs k axis.Product i.0; c = short-column cs k q }
cell-short cs k (cell.Tax t i q) = record { kind = omega arith; a = short-place cs k axis.Tax t.0; b = short-place cs k axis.Product i.0; c = short-column cs k q }
cell-short cs k (cell.Service i m) = record { kind = omega arith; a = short-place cs k axis.Product i.0; b = short-place cs k axis.Margin m.0; c = none }
cell-short cs k (cell.Added v j) = record { kind = omega arith; a = short-place cs k axis.Item v.0; b = short-place cs k axis.Industry j.0; c = none }

total-short : (cs : ClassLists) → IsClasses cs → (u : Total) → IsShort (measure_name cs (measure.Total u))
total-short cs k (total.Purchase i q) = record { kind = omega arith; a = short-place cs k axis.Product i.0; b = short-column cs k q; c = none }
total-short cs k (total.Supply i) = record { kind = omega arith; a = short-place cs k axis.Product i.0; b = none; c = none }
total-short cs k (total.Output j) = record { kind = omega arith; a = short-place cs k axis.Industry j.0; b = none; c = none }
total-short cs k (total.Inputs j) = record { kind = omega arith; a = short-place cs k axis.Industry j.0; b = none; c = none }
total-short cs k (total.ValueAdded j) = record { kind = omega arith; a = short-place cs k axis.Industry j.0; b = none; c = none }
total-short cs k (total.ItemTotal v) = record { kind = omega arith; a = short-place cs k axis.Item v.0; b = none; c = none }
total-short cs k (total.FinalTotal f) = record { kind = omega arith; a = short-place cs k axis.Final f.0; b = none; c = none }
total-short cs k total.ImportTotal = record { kind = omega arith; a = none; b = none; c = none }
total-short cs k (total.MarginTotal m) = record { kind = omega arith; a = short-place cs k axis.Margin m.0; b = none; c = none }
total-short cs k (total.MarginProduct m i) = record { kind = omega arith; a = short-place cs k axis.Margin m.0; b = short-place cs k axis.Product i.0; c = none }
total-short cs k (total.TaxTotal t) = record { kind = omega arith; a = short-place cs k axis.Tax t.0; b = none; c = none }
total-short cs k (total.TaxProduct t i) = record { kind = omega arith; a = short-place cs k axis.Tax t.0; b = short-place cs k axis.Product i.0; c = none }
total-short cs k total.Gdp = record { kind = omega arith; a = none; b = none; c = none }
total-short cs k (total.MakeGroup g j) = record { kind = omega arith; a = short-place cs k axis.ProductGroup g.0; b = short-place cs k axis.Industry j.0; c = none }
total-short cs k (total.ImportGroup g) = record { kind = omega arith; a = short-place cs k axis.ProductGroup g.0; b = none; c = none }
total-short cs k (total.PurchaseGroup g q) = record { kind = omega arith; a = short-place cs k axis.ProductGroup g.0; b = short-column cs k q; c = none }
total-short cs k (total.MarginGroup m g) = record { kind = omega arith; a = short-place cs k axis.Margin m.0; b = short-place cs k axis.ProductGroup g.0; c = none }
total-short cs k (total.TaxGroup t g) = record { kind = omega arith; a = short-place cs k axis.Tax t.0; b = short-place cs k axis.ProductGroup g.0; c = none }
total-short cs k (total.ItemGroup v h) = record { kind = omega arith; a = short-place cs k axis.Item v.0; b = short-place cs k axis.IndustryGroup h.0; c = none }

pub name-short : (cs : ClassLists) → IsClasses cs → (m : Measure) → IsShort (measure_name cs m)
name-short cs k (measure.Cell c) = cell-short cs k c
name-short cs k (measure.Total u) = total-short cs k u

length-six : (k a b c t v : List ℕ) → length (line_text (k ∷ a ∷ b ∷ c ∷ t ∷ v ∷ [])) ≡ length k + length a + length b + length c + length t + length v + 6
length-six k a b c t v = simp length-append (omega arith)

-- ---- the live measures

After-untotal : (k : List ℕ) (us : List Total) → After measure_key k (map measure.Total us) → After total_key k us
After-untotal k [] a = tt
After-untotal k (u ∷ us) a = (a.0, After-untotal k us a.1)

Sorted-untotal : (us : List Total) → Sorted measure_key (map measure.Total us) → Sorted total_key us
Sorted-untotal [] s = tt
Sorted-untotal (u ∷ us) s = (After-untotal (total_key u) us s.0, Sorted-untotal us s.1)

Sorted-right : (xs ys : List Measure) → Sorted measure_key (xs ++ ys) → Sorted measure_key ys
Sorted-right [] ys s = s
Sorted-right (x ∷ xs) ys s = Sorted-right xs ys s.1

totals-fit : (cs : ClassLists) (ms : List Measure) → All (λ m. fits cs m ≡ true) ms → All (λ u. total_fits cs u ≡ true) (filter_map total_in ms)
totals-fit cs [] all = All-nil (λ u. total_fits cs u ≡ true)
totals-fit cs (measure.Cell c ∷ ms) all = totals-fit cs ms (All-tail (λ m. fits cs m ≡ true) (measure.Cell c) ms all)
totals-fit cs (measure.Total u ∷ ms) all =
    All-cons (λ u. total_fits cs u ≡ true) u (filter_map total_in ms) (All-head (λ m. fits cs m ≡ true) (measure.Total u) ms all)
    (totals-fit cs ms (All-tail (λ m. fits cs m ≡ true) (measure.Total u) ms all))

few-live : (p : ProblemFacts) → IsKept p → IsClasses p.classes → length (live_measures p) ≤ 395264
few-live p kept classes =
    let us = filter_map total_in (live_measures p) in
    let parts = live-parts p kept.problem in
    let sorted = Sorted-untotal us (Sorted-right (map measure.Cell (cell_rows p)) (map measure.Total us) (subst (Sorted measure_key) parts (live-sorted p))) in
    let fit = totals-fit p.classes (live_measures p) (live-fits p kept.problem (groups-there p.classes classes)) in
    let totals = few-totals p.classes classes us sorted fit in
    let cells = cells-few p.rows in
    let rows = few-rows p kept.limits in
    by (length (live_measures p)) (length (map measure.Cell (cell_rows p))) (length (map measure.Total us)) (length (cell_rows p)) (length us) (length p.rows)
    (ap length parts ∙ length-append (map measure.Cell (cell_rows p)) (map measure.Total us)) (length-map (cell_rows p) (λ c. measure.Cell c)) (length-map us (λ u. measure.Total u)) totals cells rows
  where
    by : (n a b c d r : ℕ) → n ≡ a + b → a ≡ c → b ≡ d → d ≤ 247808 → c ≤ r → r ≤ 147456 → n ≤ 395264
    by n a b c d r e f g h k l = omega arith

-- ---- the file

module _ (p : ProblemFacts) (t : TableFacts) (kept : IsKept p) (classes : IsClasses p.classes) (of : IsTableOf p t) (ranges : All (λ (h : Held). InRange h.number) t.cells) where
  line-short : (m : Measure) → length (line_text (balanced_line p t m)) ≤ 160
  line-short m =
      let n = measure_name p.classes m in
      let s = name-short p.classes classes m in
      by (length n.kind) (length n.a) (length n.b) (length n.c) (length (target_text p m)) (length (whole_text (value_of t m))) (length (line_text (balanced_line p t m)))
      (length-six n.kind n.a n.b n.c (target_text p m) (whole_text (value_of t m))) s.kind s.a s.b s.c
      (found-short _ p.rows kept.problem.in_range) (value-short (value_of t m) (value-up_to p t kept of ranges m))
    where
      by : (k a b c o v l : ℕ) → l ≡ k + a + b + c + o + v + 6 → k ≤ 14 → a ≤ 32 → b ≤ 32 → c ≤ 32 → o ≤ 19 → v ≤ 19 → l ≤ 160
      by k a b c o v l e f g h i j m = omega arith

  pub text-short : length (balanced_text p t) ≤ 67108864
  unfolding balanced_text
  text-short =
      let few = few-live p kept classes in
      let all : All (λ line. length (line_text line) ≤ 160) (balanced_lines p t) = All-map (λ line. length (line_text line) ≤ 160) (balanced_line p t) (live_measures p) (λ k d h. line-short _) in
      by (length (line_text balanced_header)) (length (flat_map line_text (balanced_lines p t))) (length (balanced_text p t)) (length (balanced_lines p t)) (length (live_measures p))
      (length-append (line_text balanced_header) (flat_map line_text (balanced_lines p t))) (omega arith) (length-map (live_measures p) (balanced_line p t)) few
      (subst (λ n. n ≤ length (balanced_lines p t) * 160) (sym (length-flat_map line_text (balanced_lines p t))) (sum_by-le (λ line. length (line_text line)) 160 (balanced_lines p t) all))
    where
      by : (h b f n m : ℕ) → f ≡ h + b → h ≤ 160 → n ≡ m → m ≤ 395264 → b ≤ n * 160 → f ≤ 67108864
      by h b f n m e g k l o = omega arith
