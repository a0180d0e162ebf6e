-- The text of the rows of a problem has at most 67,108,864 bytes.
use Rattle.std.proofs.Common.{◌≡◌, ◌&&◌, ℕ, zero, suc, ◌+◌, ◌*◌, ◌≤◌, ℤ, pos, neg_ℤ, ◌≤ℤ◌, Bool, List, [], ◌∷◌, ◌++◌, Option, Some, None, true, length, map, sym, ap, subst, arith, length-append}
use Rattle.std.specs.Prelude.{All, IsTrue, nat_le, slice_get, unwrap_or}
use Rattle.std.specs.List.{flat_map, list_all}
use Rattle.std.proofs.lemmas.Bool.{leb-true}
use Rattle.std.proofs.lemmas.Int.{ints}
use Rattle.std.proofs.lemmas.List.{length-map}
use Rattle.std.proofs.lemmas.List.Concat.{length-flat_map}
use Rattle.std.proofs.lemmas.List.Elements.{All-head, All-map, All-tail, All-weaker}
use Rattle.std.proofs.lemmas.List.Sums.{sum_by-le}
use Rattle.sut_text.specs.Text.{file_text, line_text, optional_text, whole_text}
use Rattle.sut_classes.specs.ClassFile.{is_code, is_code_byte}
use Rattle.sut_classes.specs.Kept.{IsClasses}
use Rattle.sut_measures.specs.Names.{measure_name}
use Rattle.sut_settings.specs.IsSettings.{IsGrade, IsSettings}
use Rattle.sut_settings.specs.SettingsFacts.{GradeFacts, SettingsFacts}
use Rattle.sut_tables.specs.ProblemFacts.{ProblemFacts}
use Rattle.sut_tables.specs.ProblemRules.{IsKept}
use Rattle.sut_tables.specs.RowFacts.{RowFacts}
use Rattle.sut_tables.specs.Rows.{InRange, IsAim, IsPenalty, IsRow}
use Rattle.sut_tables.specs.declared.rows.Penalty.{Penalty}
use Rattle.sut_tables.specs.declared.rows.Penalty.TheVariants.{Square, Absolute, Band}
use Rattle.sut_tables.proofs.Wide.{few-rows}
use Rattle.sut_cert.proofs.Ranges.{both}
use Rattle.sut_source.specs.SourceFile.{source_header}
use Rattle.sut_source.specs.SourceText.{grade_name, penalty_text, row_line, rows_text, source_text}
use Rattle.sut_write.proofs.TextLength.{aim-short, name-short, range-short}

penalty-short : (o : Option ℤ) (penalty : Penalty) (grade weight : ℕ) → IsAim o penalty grade weight → length (penalty_text penalty) ≤ 25
penalty-short None Square grade weight aim = omega arith
penalty-short None Absolute grade weight aim = omega arith
penalty-short None (Band width) grade weight aim = absurd cc
penalty-short (Some x) Square grade weight aim = omega arith
penalty-short (Some x) Absolute grade weight aim = omega arith
penalty-short (Some x) (Band width) grade weight aim = band width aim.1
  where
    band : (width : ℤ) → IsPenalty (Band width) → length (penalty_text (Band width)) ≤ 25
    band width is =
        let short = range-short width (record { low = low is.0; high = is.1 }) in omega (arith, short)
      where
        low : pos 0 ≤ℤ width → neg_ℤ (pos 1000000000000) ≤ℤ width
        low h = omega (arith, ints)

code-short : (name : List ℕ) → is_code name ≡ true → length name ≤ 32
code-short name is =
    let sized = (both (nat_le 1 (length name) && nat_le (length name) 32) (list_all is_code_byte name) is).0 in
    leb-true (length name) 32 (both (nat_le 1 (length name)) (nat_le (length name) 32) sized).1

name-at : (relative : Bool) (grades : List GradeFacts) (k : ℕ) → All (IsGrade relative) grades → length (unwrap_or (slice_get (map (λ (g : GradeFacts). g.name) grades) k) []) ≤ 32
name-at relative [] k all = omega arith
name-at relative (g ∷ grades) zero all = code-short g.name (All-head (IsGrade relative) g grades all).name
name-at relative (g ∷ grades) (suc k) all = name-at relative grades k (All-tail (IsGrade relative) g grades all)

grade-short : (s : SettingsFacts) → IsSettings s → (place : ℕ) → length (grade_name s place) ≤ 32
grade-short s kept zero = omega arith
grade-short s kept (suc k) = name-at s.relative s.grades k kept.grades

length-eight : (k a b c t g l u : List ℕ) → length (line_text (k ∷ a ∷ b ∷ c ∷ t ∷ g ∷ l ∷ u ∷ [])) ≡ length k + length a + length b + length c + length t + length g + length l + length u + 8
length-eight k a b c t g l u = simp length-append (omega arith)

module _ (s : SettingsFacts) (p : ProblemFacts) (settings : IsSettings s) (kept : IsKept p) (classes : IsClasses p.classes) where
  line-short : (r : RowFacts) → IsRow r → length (line_text (row_line s p.classes r)) ≤ 256
  line-short r row =
      let n = measure_name p.classes r.measure in
      let name = name-short p.classes classes r.measure in
      by (length n.kind) (length n.a) (length n.b) (length n.c) (length (optional_text r.target)) (length (grade_name s r.grade)) (length (penalty_text r.penalty)) (length (grade_name s r.grade ++ penalty_text r.penalty)) (length (whole_text r.lower)) (length (whole_text r.upper)) (length (line_text (row_line s p.classes r)))
      (length-eight n.kind n.a n.b n.c (optional_text r.target) (grade_name s r.grade ++ penalty_text r.penalty) (whole_text r.lower) (whole_text r.upper)) (length-append (grade_name s r.grade) (penalty_text r.penalty))
      name.kind name.a name.b name.c (aim-short r.target r.penalty r.grade r.weight row.aim) (grade-short s settings r.grade) (penalty-short r.target r.penalty r.grade r.weight row.aim) (range-short r.lower row.lower) (range-short r.upper row.upper)
    where
      by : (k a b c t g q gq l u n : ℕ) → n ≡ k + a + b + c + t + gq + l + u + 8 → gq ≡ g + q → k ≤ 14 → a ≤ 32 → b ≤ 32 → c ≤ 32 → t ≤ 19 → g ≤ 32 → q ≤ 25 → l ≤ 19 → u ≤ 19 → n ≤ 256
      by k a b c t g q gq l u n e f h i j m o r v w x = omega arith

  lines-short : (rows : List RowFacts) → All IsRow rows → All (λ (r : RowFacts). length (line_text (row_line s p.classes r)) ≤ 256) rows
  lines-short rows all = All-weaker IsRow (λ (r : RowFacts). length (line_text (row_line s p.classes r)) ≤ 256) line-short rows all

  pub source-text-short : length (source_text s p) ≤ 67108864
  unfolding rows_text
  source-text-short =
      let few = few-rows p kept.limits in
      let lines = map (row_line s p.classes) p.rows in
      let all : All (λ line. length (line_text line) ≤ 256) lines = All-map (λ line. length (line_text line) ≤ 256) (row_line s p.classes) p.rows (lines-short p.rows kept.problem.in_range) in
      by (length (line_text source_header)) (length (flat_map line_text lines)) (length (source_text s p)) (length lines) (length p.rows)
      (length-append (line_text source_header) (flat_map line_text lines)) (omega arith) (length-map p.rows (row_line s p.classes)) few
      (subst (λ n. n ≤ length lines * 256) (sym (length-flat_map line_text lines)) (sum_by-le (λ line. length (line_text line)) 256 lines all))
    where
      by : (h b f n m : ℕ) → f ≡ h + b → h ≤ 160 → n ≡ m → m ≤ 147456 → b ≤ n * 256 → f ≤ 67108864
      by h b f n m e g k l o = omega arith
