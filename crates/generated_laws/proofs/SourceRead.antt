-- The made source is read.
use Rattle.std.proofs.Common.{◌≡◌, ◌≤◌, ◌+◌, ◌-◌, ◌*◌, ◌++◌, ◌∷◌, ◌∙◌, ℕ, zero, suc, pos, ne_eqb, List, [], Ok, map, refl, sym, ap, subst, arith, append-nil, suc-mul}
use Rattle.std.specs.Prelude.{All, codes, neg_ℤ}
use Rattle.std.specs.List.{flat_map, range_with_len}
use Rattle.std.proofs.lemmas.Int.{ints}
use Rattle.std.proofs.lemmas.List.{length-map}
use Rattle.std.proofs.lemmas.List.Elements.{All-cons, All-nil}
use Rattle.csv.specs.Reading.{strip_bom}
use Rattle.sut_text.specs.Text.{file_text}
use Rattle.sut_records.specs.FirstFault.{read_lines}
use Rattle.sut_records.specs.Plain.{IsPlainRow}
use Rattle.sut_records.specs.RecordList.{Fields, records_of}
use Rattle.sut_records.proofs.FirstFaultLemmas.{lines-ended}
use Rattle.sut_records.proofs.PlainText.{printed-file}
use Rattle.sut_classes.specs.ClassLists.{ClassLists}
use Rattle.sut_classes.specs.Kept.{IsClasses}
use Rattle.sut_tables.specs.ProblemFacts.{ProblemFacts}
use Rattle.sut_tables.specs.Rows.{limit}
use Rattle.sut_tables.proofs.Wide.{zero-in_range}
use Rattle.sut_source.specs.SourceFile.{RowLine, problem_from, rows_of, source_line}
use Rattle.sut_source.proofs.SourceLemmas.{file-read, right-header}
use Rattle.sut_generate.specs.Generator.{added_line, drawn_lines, drawn_rows, final_row, free_lines, import_row, industry_code, industry_row, made_source, make_row, margin_row, margin_rows, one_to, rows_of_product, service_line, source_header, tax_row}
use Rattle.generated_laws.specs.MadeLists.{made_facts, made_lists}
use Rattle.generated_laws.specs.MadeYears.{MadeProblem, MadeYear}
use Rattle.generated_laws.proofs.Chain.{AreOld, Read, Reads, reads-one, reads-range, reads-then}
use Rattle.generated_laws.proofs.ClassesRead.{classes-read, made-kept}
use Rattle.generated_laws.proofs.DrawnRead.{DrawnRead, drawn-at, drawn-flat, drawn-none, drawn-one, drawn-range, drawn-then, spelled-plain}
use Rattle.generated_laws.proofs.MadeNames.{added-of, added-spelled, final-of, final-spelled, import-of, import-spelled, make-of, make-spelled, margin-of, margin-spelled, service-of, service-spelled, tax-of, tax-spelled, use-of, use-spelled}
use Rattle.generated_laws.proofs.RowsRead.{free-read, free_facts, least-in_range, least-text, zero-text}
use Rattle.generated_laws.proofs.SettingsRead.{settings-read}
use Rattle.generated_laws.proofs.Sizes.{IsSize}
use Rattle.generated_laws.proofs.Zeros.{HoldsZero, zeros-admissible}

module _ (p n : ℕ) (products : p ≤ 512) (some : 1 ≤ n) (industries : n ≤ 256) where
  abbrev lists : ClassLists
  lists = made_lists p n

  kept : IsClasses (made_lists p n)
  kept = made-kept p n products industries

  -- where the ranks of a product's rows begin
  abbrev start : ℕ → ℕ
  start i = (i - 1) * 1000

  module _ (i : ℕ) (first : 1 ≤ i) (last : i ≤ p) where
    make-read : DrawnRead lists (make_row n i ∷ []) (start i) (start i + 1) 1
    make-read = drawn-one lists kept (make_row n i) (make-of n i) (start i) (start i + 1) (make-spelled p n i first last some) refl (omega arith) (omega arith) (omega arith) (omega arith)

    import-read : DrawnRead lists (import_row i ∷ []) (start i + 1) (start i + 2) 1
    import-read = drawn-one lists kept (import_row i) (import-of i) (start i + 1) (start i + 2) (import-spelled p n i first last) refl (omega arith) (omega arith) (omega arith) (omega arith)

    abbrev use-rank : ℕ → ℕ
    use-rank j = start i + 1 + j

    uses-read : DrawnRead lists (map (industry_row i) (one_to n)) (use-rank 1) (use-rank (1 + n)) n
    uses-read = drawn-range lists (industry_row i) use-rank n 1
        (λ j l h. drawn-one lists kept (industry_row i j) (use-of i j) (use-rank j) (use-rank (j + 1)) (use-spelled p n i first last j l (omega arith)) refl (omega arith) (omega arith) (omega arith) (omega arith))

    abbrev final-rank : ℕ → ℕ
    final-rank k = start i + 299 + k

    finals-read : DrawnRead lists (map (final_row i) (one_to 3)) (final-rank 1) (final-rank 4) 3
    finals-read = drawn-range lists (final_row i) final-rank 3 1
        (λ k l h. drawn-one lists kept (final_row i k) (final-of i k) (final-rank k) (final-rank (k + 1)) (final-spelled p n i first last k l (omega arith)) refl (omega arith) (omega arith) (omega arith) (omega arith))

    margin-read : DrawnRead lists (margin_row i ∷ []) (start i + 400) (start i + 401) 1
    margin-read = drawn-one lists kept (margin_row i) (margin-of i) (start i + 400) (start i + 401) (margin-spelled p n i first last) refl (omega arith) (omega arith) (omega arith) (omega arith)

    tax-read : DrawnRead lists (tax_row i ∷ []) (start i + 401) (start i + 1000) 1
    tax-read = drawn-one lists kept (tax_row i) (tax-of i) (start i + 401) (start i + 1000) (tax-spelled p n i first last) refl (omega arith) (omega arith) (omega arith) (omega arith)

    -- the rows of a product, with these margins
    product-read : (count : ℕ) → DrawnRead lists (margin_rows i) (start i + 400) (start i + 401) count → DrawnRead lists (rows_of_product n i) (start i) (start (i + 1)) (n + 6 + count)
    product-read count margins =
        drawn-at lists (rows_of_product n i) (start i) (start i + 1000) (start (i + 1)) (1 + (1 + (n + 3 + count + 1))) (n + 6 + count) ends (sum count)
        (drawn-then lists (make_row n i ∷ []) _ (start i) (start i + 1) (start i + 1) (start i + 1000) 1 (1 + (n + 3 + count + 1)) make-read (omega arith)
        (drawn-then lists (import_row i ∷ []) _ (start i + 1) (start i + 2) (use-rank 1) (start i + 1000) 1 (n + 3 + count + 1) import-read (omega arith)
        (drawn-then lists _ (tax_row i ∷ []) (use-rank 1) (start i + 401) (start i + 401) (start i + 1000) (n + 3 + count) 1
        (drawn-then lists _ (margin_rows i) (use-rank 1) (final-rank 4) (start i + 400) (start i + 401) (n + 3) count
        (drawn-then lists (map (industry_row i) (one_to n)) (map (final_row i) (one_to 3)) (use-rank 1) (use-rank (1 + n)) (final-rank 1) (final-rank 4) n 3 uses-read (omega arith) finals-read)
        (omega arith) margins)
        (omega arith) tax-read)))
      where
        ends : start i + 1000 ≡ start (i + 1)
        ends = omega arith

        sum : (count : ℕ) → 1 + (1 + (n + 3 + count + 1)) ≡ n + 6 + count
        sum count = omega arith

    -- a product but the first bears a margin
    later-read : 2 ≤ i → DrawnRead lists (rows_of_product n i) (start i) (start (i + 1)) (n + 7)
    later-read later =
        let rows : margin_rows i ≡ margin_row i ∷ [] = rw (ne_eqb i 1 (λ e. omega arith)) refl in
        drawn-at lists (rows_of_product n i) (start i) (start (i + 1)) (start (i + 1)) (n + 6 + 1) (n + 7) refl sum
        (product-read 1 (subst (λ rs. DrawnRead lists rs (start i + 400) (start i + 401) 1) (sym rows) margin-read))
      where
        sum : n + 6 + 1 ≡ n + 7
        sum = omega arith

  -- ---- the rows without a target

  service-plain : IsPlainRow service_line
  service-plain = record { wide = omega arith; plain = (refl, (refl, (refl, (refl, (refl, (refl, (refl, (refl, tt)))))))) }

  service-read : 1 ≤ p → Reads lists (service_line ∷ []) 512000 512001 1
  service-read l =
      reads-one lists service_line (free_facts service-of (pos 0)) 512000 512001 service-plain refl
      (free-read lists kept (codes "service") (codes "P1") (codes "T") [] service-of (service-spelled p n l) (pos 0) (codes "0") zero-in_range zero-text) refl
      (record { lower = omega (arith, ints); upper = omega (arith, ints) }) (omega arith) (omega arith)

  abbrev added-rank : ℕ → ℕ
  added-rank j = 512000 + j

  one-added : (j : ℕ) → 1 ≤ j → j ≤ n → Reads lists (added_line j ∷ []) (added-rank j) (added-rank (j + 1)) 1
  one-added j l h =
      let spelled = added-spelled p n j l h in
      let name = spelled-plain lists kept (codes "added") (codes "V1") (industry_code j) [] (added-of j) spelled in
      let plain : IsPlainRow (added_line j) = record { wide = omega arith; plain = (name.0, (name.1.0, (name.1.1.0, (name.1.1.1.0, (refl, (refl, (refl, (refl, tt)))))))) } in
      reads-one lists (added_line j) (free_facts (added-of j) (neg_ℤ limit)) (added-rank j) (added-rank (j + 1)) plain refl
      (free-read lists kept (codes "added") (codes "V1") (industry_code j) [] (added-of j) spelled (neg_ℤ limit) (codes "-1000000000000") least-in_range least-text) refl
      (record { lower = omega (arith, ints); upper = omega (arith, ints) }) (omega arith) (omega arith)

  free-lines-read : 1 ≤ p → Reads lists (free_lines n) 512000 (added-rank (1 + n)) (1 + n)
  free-lines-read l =
      reads-then lists (service_line ∷ []) (map added_line (one_to n)) 512000 512001 (added-rank 1) (added-rank (1 + n)) 1 n (service-read l) (omega arith)
      (reads-range lists added_line added-rank n 1 (λ j l h. one-added j l (omega arith)))

-- ---- all rows

products-read : (p n : ℕ) → 1 ≤ p → p ≤ 512 → 1 ≤ n → n ≤ 256 → DrawnRead (made_lists p n) (drawn_rows p n) 0 (p * 1000) (n + 6 + (p - 1) * (n + 7))
products-read zero n l h some most = absurd (omega arith)
products-read (suc q) n l h some most =
    drawn-at (made_lists (suc q) n) (drawn_rows (suc q) n) 0 ((2 + q - 1) * 1000) (suc q * 1000) (n + 6 + 0 + q * (n + 7)) (n + 6 + (suc q - 1) * (n + 7)) top count
    (drawn-then (made_lists (suc q) n) (rows_of_product n 1) (flat_map (rows_of_product n) (range_with_len 2 q)) 0 1000 1000 ((2 + q - 1) * 1000) (n + 6 + 0) (q * (n + 7))
    (product-read (suc q) n h some most 1 (omega arith) (omega arith) 0 (drawn-none (made_lists (suc q) n) 400 401 (omega arith))) (omega arith)
    (drawn-flat (made_lists (suc q) n) (rows_of_product n) (λ i. (i - 1) * 1000) (n + 7) q 2 (λ i l' h'. later-read (suc q) n h some most i (omega arith) (omega arith) l')))
  where
    top : (2 + q - 1) * 1000 ≡ suc q * 1000
    top = omega arith

    same : suc q - 1 ≡ q
    same = omega arith

    count : n + 6 + 0 + q * (n + 7) ≡ n + 6 + (suc q - 1) * (n + 7)
    count = rw same (omega arith)

lines-read : (seed p n : ℕ) → IsSize seed p n → Reads (made_lists p n) (drawn_lines seed (drawn_rows p n) ++ free_lines n) 0 (512000 + (1 + n)) (n + 6 + (p - 1) * (n + 7) + (1 + n))
lines-read seed p n size =
    let products = products-read p n size.some_products size.few_products size.some_industries size.few_industries in
    let most = size.few_products in
    reads-then (made_lists p n) (drawn_lines seed (drawn_rows p n)) (free_lines n) 0 (p * 1000) 512000 (512000 + (1 + n)) (n + 6 + (p - 1) * (n + 7)) (1 + n)
    (products.at seed) (omega arith) (free-lines-read p n size.few_products size.some_industries size.few_industries size.some_products)

row-count : (p n : ℕ) → 1 ≤ p → n + 6 + (p - 1) * (n + 7) + (1 + n) ≡ p * (n + 7) + n
row-count zero n l = absurd (omega arith)
row-count (suc q) n l =
    let same : suc q - 1 ≡ q = omega arith in
    rw same (omega (arith, suc-mul q (n + 7)))

old-hold : (top : ℕ) (rs : List RowLine) → AreOld top rs → All HoldsZero (rows_of rs)
old-hold top [] h = All-nil HoldsZero
old-hold top (r ∷ rs) h = All-cons HoldsZero r.row (rows_of rs) h.0.holds (old-hold top rs h.1)

header-plain : IsPlainRow source_header
header-plain = record { wide = omega arith; plain = (refl, (refl, (refl, (refl, (refl, (refl, (refl, (refl, tt)))))))) }

no-mark : (lines : List Fields) → strip_bom (file_text source_header lines) ≡ file_text source_header lines
unfolding strip_bom
no-mark lines = refl

pub source-read : (seed p n : ℕ) → IsSize seed p n → MadeProblem seed p n
unfolding made_source
source-read seed p n size =
    let lists = made_lists p n in
    let lines = drawn_lines seed (drawn_rows p n) ++ free_lines n in
    let total = n + 6 + (p - 1) * (n + 7) + (1 + n) in
    let count : total ≡ p * (n + 7) + n = row-count p n size.some_products in
    let few = size.few_rows in
    let all = lines-read seed p n size in
    let got : Read lists lines [] 2 [] (512000 + (1 + n)) (0 + total) = all.read 2 0 [] [] (record { old = tt; size = refl }) (omega arith) in
    let made : ProblemFacts = record { classes = lists; rows = rows_of got.after } in
    let rows : read_lines (source_line made_facts lists) 2 [] lines ≡ Ok got.after =
    ap (λ ls. read_lines (source_line made_facts lists) 2 [] ls) (sym (append-nil lines)) ∙ got.read ∙ lines-ended (source_line made_facts lists) got.next got.after [] refl in
    let records : records_of (file_text source_header lines) ≡ source_header ∷ lines = printed-file source_header lines header-plain all.plain (no-mark lines) in
    record {
      problem = made;
      classes = refl;
      read = sym (file-read made_facts lists (records_of (file_text source_header lines)) lines (Ok made) (right-header (records_of (file_text source_header lines)) source_header lines records refl)
          (sym (ap (problem_from lists) rows)));
      size = length-map got.after (λ (r : RowLine). r.row) ∙ got.good.size ∙ sum total ∙ count;
      zeros = zeros-admissible made (old-hold (512000 + (1 + n)) got.after got.good.old);
    }
  where
    sum : (k : ℕ) → 0 + k ≡ k
    sum k = omega arith

pub year-read : (seed p n : ℕ) → IsSize seed p n → MadeYear seed p n
year-read seed p n size =
    let made = source-read seed p n size in
    record {
      settings = made_facts;
      classes = made_lists p n;
      problem = made.problem;
      settings_read = settings-read;
      classes_read = classes-read p n size.few_products size.few_industries;
      source_read = made.read;
      size = made.size;
      possible = λ none. none _ made.zeros;
    }
