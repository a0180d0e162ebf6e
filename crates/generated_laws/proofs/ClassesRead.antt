-- The made classes are read.
use Rattle.std.proofs.Common.{◌≡◌, ◌<◌, ◌≤◌, ◌+◌, ◌++◌, ◌∷◌, ◌∙◌, ◌==◌, ◌||◌, ℕ, List, [], Bool, true, false, nat_lt, Option, Some, None, Ok, map, length, refl, sym, ap, arith, append_assoc, if◌then◌else◌}
use Rattle.std.specs.Prelude.{codes, decimal, is_some, option_map}
use Rattle.std.specs.List.{position}
use Rattle.std.specs.Str.{bytes_eq}
use Rattle.std.proofs.lemmas.Bool.{lt-ltb}
use Rattle.std.proofs.lemmas.List.FromFn.{length-map-range_with_len, map-range_with_len_more}
use Rattle.csv.specs.Reading.{strip_bom}
use Rattle.sut_text.specs.Text.{file_text, needs_quotes}
use Rattle.sut_records.specs.FirstFault.{read_lines}
use Rattle.sut_records.specs.Plain.{ArePlainRows, IsPlainRow}
use Rattle.sut_records.specs.RecordList.{Fields, field, records_of}
use Rattle.sut_records.proofs.FirstFaultLemmas.{line-judged, lines-ended}
use Rattle.sut_records.proofs.PlainText.{printed-file}
use Rattle.sut_classes.specs.ClassFile.{axis_named, class_line, classes_of, group_read, is_code_of, is_taken, kind_read, limit_of, no_classes, with_code}
use Rattle.sut_classes.specs.ClassLists.{ClassLists, ProductClass, IndustryClass}
use Rattle.sut_classes.specs.Kept.{IsClasses}
use Rattle.sut_classes.specs.Places.{count_of}
use Rattle.sut_classes.specs.declared.ids.MarginId.{MarginId}
use Rattle.sut_classes.specs.declared.ids.Axis.{Axis}
use Rattle.sut_classes.specs.declared.ids.Axis.TheVariants as axis
use Rattle.sut_classes.proofs.FileLemmas.{under-format}
use Rattle.sut_classes.proofs.KeptLemmas.{IsClasses-added, IsClasses-none}
use Rattle.sut_classes.proofs.LineLemmas.{line-allowed, line-good}
use Rattle.sut_classes.proofs.PlainLines.{plain-code}
use Rattle.sut_classes.proofs.PlaceLemmas.{position-is}
use Rattle.sut_generate.specs.Generator.{class_header, class_lines, final_code, final_line, industry_code, industry_line, item_line, made_classes, margin_line, one_to, product_code, product_line, tax_line}
use Rattle.generated_laws.specs.MadeLists.{industry_class, made_lists, product_class}
use Rattle.generated_laws.proofs.Codes.{absent, numbered-apart, numbered-code}
use Rattle.generated_laws.proofs.Ranges.{joined-plain, range-kept, range-plain, range-read}

-- a line that passes all tests
record Passes (cs : ClassLists) (line : Fields) (a : Axis) (kind : Option ℕ) : Type 0 where
  width : (length line == cs.format + 2) ≡ true
  named : axis_named cs.format (field line 0) ≡ Some a
  lawful : is_code_of a (field line 1) ≡ true
  of_kind : kind_read cs a (field line 2) ≡ Some kind
  in_group : group_read cs a (field line 3) ≡ Some None
  free : is_taken cs a (field line 1) ≡ false
  room : nat_lt (count_of cs a) (limit_of a) ≡ true

-- what a line does to the classes before it
record Adds (cs : ClassLists) (line : Fields) (more : ClassLists) : Type 0 where
  judged : (m : ℕ) → class_line m cs line ≡ Ok more
  kept : IsClasses cs → IsClasses more

passes-adds : (cs : ClassLists) (line : Fields) (a : Axis) (kind : Option ℕ) (more : ClassLists) → Passes cs line a kind → with_code cs a (field line 1) kind None ≡ more → Adds cs line more
passes-adds cs line a kind more t e = record {
  judged = λ m. line-good m cs line a kind None t.width t.named t.lawful t.of_kind t.in_group t.free t.room ∙ ap Ok e;
  kept = λ old. rw (← e) (IsClasses-added cs a (field line 1) kind None old (line-allowed cs line a kind None t.named t.lawful t.of_kind t.in_group t.free t.room));
}

-- the classes after each part of the file
abbrev after-margin : ClassLists
after-margin = record (no_classes 1) { margins = codes "T" ∷ [] }

abbrev after-products : ℕ → ClassLists
after-products k = record after-margin { products = map product_class (one_to k) }

abbrev after-industries : ℕ → ℕ → ClassLists
after-industries p k = record (after-products p) { industries = map industry_class (one_to k) }

abbrev after-finals : ℕ → ℕ → ℕ → ClassLists
after-finals p n k = record (after-industries p n) { finals = map final_code (one_to k) }

abbrev after-item : ℕ → ℕ → ClassLists
after-item p n = record (after-finals p n 3) { items = codes "V1" ∷ [] }

pub products-codes : (xs : List ℕ) → map (λ (i : ProductClass). i.code) (map product_class xs) ≡ map product_code xs
products-codes [] = refl
products-codes (x ∷ xs) = ap (λ l. product_code x ∷ l) (products-codes xs)

pub industries-codes : (xs : List ℕ) → map (λ (j : IndustryClass). j.code) (map industry_class xs) ≡ map industry_code xs
industries-codes [] = refl
industries-codes (x ∷ xs) = ap (λ l. industry_code x ∷ l) (industries-codes xs)

-- ---- products

product-free : (k : ℕ) → k < 512 → is_taken (after-products k) axis.Product (product_code (k + 1)) ≡ false
product-free k l =
    let lost : position (bytes_eq (product_code (k + 1))) (map product_code (one_to k)) ≡ None =
    position-is (bytes_eq (product_code (k + 1))) (map product_code (one_to k)) ∙ absent product_code (product_code (k + 1)) k 1 (λ i h. numbered-apart 80 i (k + 1) (omega arith) (omega arith)) in
    ap (λ cs. is_some (position (bytes_eq (product_code (k + 1))) cs)) (products-codes (one_to k)) ∙ ap is_some lost

product-kind : (b : Bool) (ps : List ProductClass)
    → kind_read (record after-margin { products = ps }) axis.Product (if b then codes "T" else codes "plain") ≡ Some (if b then Some 0 else None)
product-kind true ps = refl
product-kind false ps = refl

kind-as : (b : Bool) → option_map {U = MarginId} (λ k. record { 0 = k }) (if b then Some 0 else None) ≡ (if b then Some (record { 0 = 0 }) else None)
kind-as true = refl
kind-as false = refl

product-room : (k : ℕ) → k < 512 → nat_lt (count_of (after-products k) axis.Product) 512 ≡ true
product-room k l =
    ap (λ cs. nat_lt (length cs) 512) (products-codes (one_to k)) ∙ ap (λ m. nat_lt m 512) (length-map-range_with_len product_code 1 k) ∙ lt-ltb k 512 l

product-adds : (k : ℕ) → k < 512 → Adds (after-products k) (product_line (k + 1)) (after-products (k + 1))
product-adds k l =
    passes-adds (after-products k) (product_line (k + 1)) axis.Product (if (k + 1) == 1 then Some 0 else None) (after-products (k + 1))
    (record {
      width = refl;
      named = refl;
      lawful = numbered-code axis.Product 80 (k + 1) refl refl (omega arith);
      of_kind = product-kind ((k + 1) == 1) (map product_class (one_to k));
      in_group = refl;
      free = product-free k l;
      room = product-room k l;
    })
    (ap (λ kind. record (after-products k) { products = map product_class (one_to k) ++ record { code = product_code (k + 1); kind = kind; group = None } ∷ [] }) (kind-as ((k + 1) == 1))
    ∙ ap (λ ps. record after-margin { products = ps }) (sym (map-range_with_len_more product_class 1 k (k + 1) (omega arith))))

-- ---- industries

industry-free : (p k : ℕ) → k < 256 → is_taken (after-industries p k) axis.Industry (industry_code (k + 1)) ≡ false
industry-free p k l =
    let lost : position (bytes_eq (industry_code (k + 1))) (map industry_code (one_to k)) ≡ None =
    position-is (bytes_eq (industry_code (k + 1))) (map industry_code (one_to k)) ∙ absent industry_code (industry_code (k + 1)) k 1 (λ i h. numbered-apart 73 i (k + 1) (omega arith) (omega arith)) in
    ap (λ cs. is_some (position (bytes_eq (industry_code (k + 1))) cs) || false) (industries-codes (one_to k)) ∙ ap (λ o. is_some o || false) lost

industry-room : (p k : ℕ) → k < 256 → nat_lt (count_of (after-industries p k) axis.Industry) 256 ≡ true
industry-room p k l =
    ap (λ cs. nat_lt (length cs) 256) (industries-codes (one_to k)) ∙ ap (λ m. nat_lt m 256) (length-map-range_with_len industry_code 1 k) ∙ lt-ltb k 256 l

industry-adds : (p k : ℕ) → k < 256 → Adds (after-industries p k) (industry_line (k + 1)) (after-industries p (k + 1))
industry-adds p k l =
    passes-adds (after-industries p k) (industry_line (k + 1)) axis.Industry None (after-industries p (k + 1))
    (record {
      width = refl;
      named = refl;
      lawful = numbered-code axis.Industry 73 (k + 1) refl refl (omega arith);
      of_kind = refl;
      in_group = refl;
      free = industry-free p k l;
      room = industry-room p k l;
    })
    (ap (λ js. record (after-products p) { industries = js }) (sym (map-range_with_len_more industry_class 1 k (k + 1) (omega arith))))

-- ---- final uses

no-industry : (f : List ℕ) (n : ℕ) → position (bytes_eq (70 ∷ f)) (map (λ (j : IndustryClass). j.code) (map industry_class (one_to n))) ≡ None
no-industry f n =
    ap (position (bytes_eq (70 ∷ f))) (industries-codes (one_to n)) ∙ position-is (bytes_eq (70 ∷ f)) (map industry_code (one_to n)) ∙ absent industry_code (70 ∷ f) n 1 (λ i h. refl)

final-free : (p n k : ℕ) → k < 32 → is_taken (after-finals p n k) axis.Final (final_code (k + 1)) ≡ false
final-free p n k l =
    let lost : position (bytes_eq (final_code (k + 1))) (map final_code (one_to k)) ≡ None =
    position-is (bytes_eq (final_code (k + 1))) (map final_code (one_to k)) ∙ absent final_code (final_code (k + 1)) k 1 (λ i h. numbered-apart 70 i (k + 1) (omega arith) (omega arith)) in
    ap (λ o. is_some o || is_some (position (bytes_eq (final_code (k + 1))) (map final_code (one_to k)))) (no-industry (decimal (k + 1)) n) ∙ ap is_some lost

final-adds : (p n k : ℕ) → k < 32 → Adds (after-finals p n k) (final_line (k + 1)) (after-finals p n (k + 1))
final-adds p n k l =
    passes-adds (after-finals p n k) (final_line (k + 1)) axis.Final None (after-finals p n (k + 1))
    (record {
      width = refl;
      named = refl;
      lawful = numbered-code axis.Final 70 (k + 1) refl refl (omega arith);
      of_kind = refl;
      in_group = refl;
      free = final-free p n k l;
      room = ap (λ m. nat_lt m 32) (length-map-range_with_len final_code 1 k) ∙ lt-ltb k 32 l;
    })
    (ap (λ fs. record (after-industries p n) { finals = fs }) (sym (map-range_with_len_more final_code 1 k (k + 1) (omega arith))))

-- ---- the other lines

margin-adds : Adds (no_classes 1) margin_line (after-products 0)
margin-adds =
    passes-adds (no_classes 1) margin_line axis.Margin None (after-products 0)
    (record { width = refl; named = refl; lawful = refl; of_kind = refl; in_group = refl; free = refl; room = refl }) refl

item-adds : (p n : ℕ) → Adds (after-finals p n 3) item_line (after-item p n)
item-adds p n =
    passes-adds (after-finals p n 3) item_line axis.Item None (after-item p n)
    (record { width = refl; named = refl; lawful = refl; of_kind = refl; in_group = refl; free = refl; room = refl }) refl

tax-adds : (p n : ℕ) → Adds (after-item p n) tax_line (made_lists p n)
tax-adds p n =
    passes-adds (after-item p n) tax_line axis.Tax None (made_lists p n)
    (record { width = refl; named = refl; lawful = refl; of_kind = refl; in_group = refl; free = refl; room = refl }) refl

-- ---- the whole file

one-line : (cs more : ClassLists) (line : Fields) (rest : List Fields) (m : ℕ) → Adds cs line more → read_lines class_line m cs (line ∷ rest) ≡ read_lines class_line (m + 1) more rest
one-line cs more line rest m adds = line-judged class_line m cs (line ∷ rest) line rest (Ok more) refl (adds.judged m)

lines-joined : (a b c d : List Fields) → (((a ++ b) ++ c) ++ d) ≡ a ++ (b ++ (c ++ d))
lines-joined a b c d = simp append_assoc

lines-read : (p n : ℕ) → p ≤ 512 → n ≤ 256 → read_lines class_line 2 (no_classes 1) (class_lines p n) ≡ Ok (made_lists p n)
lines-read p n lp ln =
    let end = item_line ∷ tax_line ∷ [] in
    let ends = λ (m : ℕ). one-line (after-finals p n 3) (after-item p n) item_line (tax_line ∷ []) m (item-adds p n) ∙ one-line (after-item p n) (made_lists p n) tax_line [] (m + 1) (tax-adds p n)
    ∙ lines-ended class_line (m + 1 + 1) (made_lists p n) [] refl in
    let finals = λ (m : ℕ). range-read class_line (after-finals p n) final_line end (Ok (made_lists p n)) 3 (λ k m l. (final-adds p n k (omega arith)).judged m) ends 3 0 m (omega arith) in
    let industries = λ (m : ℕ). range-read class_line (after-industries p) industry_line (map final_line (one_to 3) ++ end) (Ok (made_lists p n)) n (λ k m l. (industry-adds p k (omega arith)).judged m) finals n 0 m (omega arith) in
    let products = λ (m : ℕ). range-read class_line after-products product_line (map industry_line (one_to n) ++ (map final_line (one_to 3) ++ end)) (Ok (made_lists p n)) p (λ k m l. (product-adds k (omega arith)).judged m) industries p 0 m (omega arith) in
    ap (λ ls. read_lines class_line 2 (no_classes 1) (margin_line ∷ ls)) (lines-joined (map product_line (one_to p)) (map industry_line (one_to n)) (map final_line (one_to 3)) end)
    ∙ one-line (no_classes 1) (after-products 0) margin_line (map product_line (one_to p) ++ (map industry_line (one_to n) ++ (map final_line (one_to 3) ++ end))) 2 margin-adds ∙ products 3

-- the made classes keep what all classes keep
pub made-kept : (p n : ℕ) → p ≤ 512 → n ≤ 256 → IsClasses (made_lists p n)
made-kept p n lp ln =
    let products = range-kept IsClasses after-products p (λ k l. (product-adds k (omega arith)).kept) (margin-adds.kept (IsClasses-none 1 refl)) p (omega arith) in
    let industries = range-kept IsClasses (after-industries p) n (λ k l. (industry-adds p k (omega arith)).kept) products n (omega arith) in
    let finals = range-kept IsClasses (after-finals p n) 3 (λ k l. (final-adds p n k (omega arith)).kept) industries 3 (omega arith) in
    (tax-adds p n).kept ((item-adds p n).kept finals)

-- ---- no quotes

product-plain : (i : ℕ) → i < 1000 → IsPlainRow (product_line i)
product-plain i l = record { wide = omega arith; plain = (refl, (plain-code axis.Product (product_code i) (numbered-code axis.Product 80 i refl refl l), (by (i == 1), tt))) }
  where
    by : (b : Bool) → needs_quotes (if b then codes "T" else codes "plain") ≡ false
    by true = refl
    by false = refl

industry-plain : (j : ℕ) → j < 1000 → IsPlainRow (industry_line j)
industry-plain j l = record { wide = omega arith; plain = (refl, (plain-code axis.Industry (industry_code j) (numbered-code axis.Industry 73 j refl refl l), (refl, tt))) }

final-plain : (k : ℕ) → k < 1000 → IsPlainRow (final_line k)
final-plain k l = record { wide = omega arith; plain = (refl, (plain-code axis.Final (final_code k) (numbered-code axis.Final 70 k refl refl l), (refl, tt))) }

three-plain : (a b c : List ℕ) → needs_quotes a ≡ false → needs_quotes b ≡ false → needs_quotes c ≡ false → IsPlainRow (a ∷ b ∷ c ∷ [])
three-plain a b c e f g = record { wide = omega arith; plain = (e, (f, (g, tt))) }

lines-plain : (p n : ℕ) → p ≤ 512 → n ≤ 256 → ArePlainRows (class_lines p n)
lines-plain p n lp ln =
    let end : ArePlainRows (item_line ∷ tax_line ∷ []) = (three-plain (codes "item") (codes "V1") [] refl refl refl, (three-plain (codes "tax") (codes "X") [] refl refl refl, tt)) in
    let ps = range-plain product_line p 1 (λ i l. product-plain i (omega arith)) in
    let js = range-plain industry_line n 1 (λ j l. industry-plain j (omega arith)) in
    let fs = range-plain final_line 3 1 (λ k l. final-plain k (omega arith)) in
    (three-plain (codes "margin") (codes "T") [] refl refl refl, joined-plain _ _ (joined-plain _ _ (joined-plain _ _ ps js) fs) end)

no-mark : (lines : List Fields) → strip_bom (file_text class_header lines) ≡ file_text class_header lines
unfolding strip_bom
no-mark lines = refl

pub classes-read : (p n : ℕ) → p ≤ 512 → n ≤ 256 → classes_of (made_classes p n) ≡ Ok (made_lists p n)
unfolding made_classes
classes-read p n lp ln =
    under-format (records_of (file_text class_header (class_lines p n))) class_header (class_lines p n) 1
    (printed-file class_header (class_lines p n) (three-plain (codes "axis") (codes "code") (codes "kind") refl refl refl) (lines-plain p n lp ln) (no-mark (class_lines p n))) refl
    ∙ lines-read p n lp ln
