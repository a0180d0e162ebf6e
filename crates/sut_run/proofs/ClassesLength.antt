-- The text of classes in format 2 has at most 67,108,864 bytes.
use Rattle.std.proofs.Common.{◌≡◌, ℕ, suc, ◌+◌, ◌*◌, ◌≤◌, List, [], ◌∷◌, ◌++◌, ◌&&◌, length, map, true, not, Option, Some, None, refl, sym, subst, arith, length-append}
use Rattle.std.specs.Prelude.{All, nat_le, slice_get, unwrap_or, codes}
use Rattle.std.specs.List.{flat_map, list_all}
use Rattle.std.specs.Str.{bytes_eq}
use Rattle.std.proofs.lemmas.Bool.{leb-true}
use Rattle.std.proofs.lemmas.List.{length-map}
use Rattle.std.proofs.lemmas.List.Concat.{length-flat_map}
use Rattle.std.proofs.lemmas.List.Elements.{All-append, All-cons, All-map, All-nil, All-weaker}
use Rattle.std.proofs.lemmas.List.Sums.{sum_by-le}
use Rattle.sut_text.specs.Text.{file_text, line_text}
use Rattle.sut_records.specs.RecordList.{Fields}
use Rattle.sut_classes.specs.ClassFile.{is_code, is_code_byte, is_code_of, is_margin}
use Rattle.sut_classes.specs.ClassLists.{ClassLists, Code, IndustryClass, ProductClass}
use Rattle.sut_classes.specs.ClassText.{class_header, class_lines, classes_text, code_text, group_text, industry_group_text, industry_line, kind_text, plain_line, product_line}
use Rattle.sut_classes.specs.Kept.{IsClasses}
use Rattle.sut_classes.specs.Places.{code_at, codes_of}
use Rattle.sut_classes.specs.declared.ids.IndustryGroupId.{IndustryGroupId}
use Rattle.sut_classes.specs.declared.ids.MarginId.{MarginId}
use Rattle.sut_classes.specs.declared.ids.ProductGroupId.{ProductGroupId}
use Rattle.sut_classes.specs.declared.ids.Axis.{Axis}
use Rattle.sut_classes.specs.declared.ids.Axis.TheVariants as axis
use Rattle.sut_cert.proofs.Ranges.{both}
use Rattle.sut_tables.proofs.FirstBreak.{All-unmap}

-- ---- codes

code-short : (a : Axis) (text : Code) → is_code_of a text ≡ true → length text ≤ 32
code-short a text lawful =
    let is = (both (is_code text) (not (is_margin a && bytes_eq text (codes "plain"))) lawful).0 in
    let sized = (both (nat_le 1 (length text) && nat_le (length text) 32) (list_all is_code_byte text) is).0 in
    leb-true (length text) 32 (both (nat_le 1 (length text)) (nat_le (length text) 32) sized).1

there-short : (a : Axis) (o : Option Code) → ((text : Code) → o ≡ Some text → is_code_of a text ≡ true) → length (unwrap_or o []) ≤ 32
there-short a None lawful = omega arith
there-short a (Some text) lawful = code-short a text (lawful text refl)

-- each code of a list of an axis
all-short : (a : Axis) (xs : List Code) → ((n : ℕ) (text : Code) → slice_get xs n ≡ Some text → is_code_of a text ≡ true) → All (λ text. length text ≤ 32) xs
all-short a [] lawful = All-nil (λ text. length text ≤ 32)
all-short a (x ∷ xs) lawful =
    All-cons (λ text. length text ≤ 32) x xs (code-short a x (lawful 0 x refl)) (all-short a xs (λ n text is. lawful (suc n) text is))

-- ---- lines

length-four : (w a b n : List ℕ) → length (line_text (w ∷ a ∷ b ∷ n ∷ [])) ≡ length w + length a + length b + length n + 4
length-four w a b n = simp length-append (omega arith)

four-short : (w a b n : List ℕ) → length w ≤ 14 → length a ≤ 32 → length b ≤ 32 → length n ≤ 32 → length (line_text (w ∷ a ∷ b ∷ n ∷ [])) ≤ 114
four-short w a b n h g k l = by (length w) (length a) (length b) (length n) _ (length-four w a b n) h g k l
  where
    by : (w a b n l : ℕ) → l ≡ w + a + b + n + 4 → w ≤ 14 → a ≤ 32 → b ≤ 32 → n ≤ 32 → l ≤ 114
    by w a b n l e h g k m = omega arith

abbrev IsShort : Fields → Type 0
IsShort line = length (line_text line) ≤ 114

none : length {A = ℕ} [] ≤ 32
none = omega arith

plain-short : (a : Axis) (text : Code) → length text ≤ 32 → IsShort (plain_line a text)
plain-short axis.Product text h = four-short (codes "product") text [] [] (omega arith) h none none
plain-short axis.Industry text h = four-short (codes "industry") text [] [] (omega arith) h none none
plain-short axis.Final text h = four-short (codes "final") text [] [] (omega arith) h none none
plain-short axis.Item text h = four-short (codes "item") text [] [] (omega arith) h none none
plain-short axis.Margin text h = four-short (codes "margin") text [] [] (omega arith) h none none
plain-short axis.Tax text h = four-short (codes "tax") text [] [] (omega arith) h none none
plain-short axis.ProductGroup text h = four-short (codes "product_group") text [] [] (omega arith) h none none
plain-short axis.IndustryGroup text h = four-short (codes "industry_group") text [] [] (omega arith) h none none

module _ (cs : ClassLists) (kept : IsClasses cs) where
  place-short : (a : Axis) (n : ℕ) → length (code_text cs a n) ≤ 32
  place-short a n = there-short a (code_at cs a n) (kept.lawful a n)

  kind-short : (k : Option MarginId) → length (kind_text cs k) ≤ 32
  kind-short None = omega arith
  kind-short (Some k) = place-short axis.Margin k.0

  group-short : (g : Option ProductGroupId) → length (group_text cs g) ≤ 32
  group-short None = omega arith
  group-short (Some g) = place-short axis.ProductGroup g.0

  industry-group-short : (h : Option IndustryGroupId) → length (industry_group_text cs h) ≤ 32
  industry-group-short None = omega arith
  industry-group-short (Some h) = place-short axis.IndustryGroup h.0

  codes-short : (a : Axis) → All (λ text. length text ≤ 32) (codes_of cs a)
  codes-short a = all-short a (codes_of cs a) (kept.lawful a)

  plains-short : (a : Axis) → All IsShort (map (plain_line a) (codes_of cs a))
  plains-short a =
      All-map IsShort (plain_line a) (codes_of cs a)
      (All-weaker (λ text. length text ≤ 32) (λ text. IsShort (plain_line a text)) (plain-short a) (codes_of cs a) (codes-short a))

  product-short : (i : ProductClass) → length i.code ≤ 32 → IsShort (product_line cs i)
  product-short i h = four-short (codes "product") i.code (kind_text cs i.kind) (group_text cs i.group) (omega arith) h (kind-short i.kind) (group-short i.group)

  products-short : All IsShort (map (product_line cs) cs.products)
  products-short =
      All-map IsShort (product_line cs) cs.products
      (All-weaker (λ (i : ProductClass). length i.code ≤ 32) (λ i. IsShort (product_line cs i)) product-short cs.products
      (All-unmap (λ text. length text ≤ 32) (λ (i : ProductClass). i.code) cs.products (codes-short axis.Product)))

  industry-short : (j : IndustryClass) → length j.code ≤ 32 → IsShort (industry_line cs j)
  industry-short j h = four-short (codes "industry") j.code [] (industry_group_text cs j.group) (omega arith) h none (industry-group-short j.group)

  industries-short : All IsShort (map (industry_line cs) cs.industries)
  industries-short =
      All-map IsShort (industry_line cs) cs.industries
      (All-weaker (λ (j : IndustryClass). length j.code ≤ 32) (λ j. IsShort (industry_line cs j)) industry-short cs.industries
      (All-unmap (λ text. length text ≤ 32) (λ (j : IndustryClass). j.code) cs.industries (codes-short axis.Industry)))

  -- ---- the file

  lines-short : All IsShort (class_lines cs)
  lines-short =
      All-append IsShort _ (map (plain_line axis.Tax) cs.taxes)
      (All-append IsShort _ (map (plain_line axis.Item) cs.items)
      (All-append IsShort _ (map (plain_line axis.Final) cs.finals)
      (All-append IsShort _ (map (industry_line cs) cs.industries)
      (All-append IsShort _ (map (plain_line axis.IndustryGroup) cs.industry_groups)
      (All-append IsShort _ (map (product_line cs) cs.products)
      (All-append IsShort (map (plain_line axis.Margin) cs.margins) (map (plain_line axis.ProductGroup) cs.product_groups) (plains-short axis.Margin) (plains-short axis.ProductGroup))
      products-short) (plains-short axis.IndustryGroup)) industries-short) (plains-short axis.Final)) (plains-short axis.Item)) (plains-short axis.Tax)

  few-lines : length (class_lines cs) ≤ 924
  few-lines =
      let m = kept.few axis.Margin in
      let g = kept.few axis.ProductGroup in
      let p = kept.few axis.Product in
      let h = kept.few axis.IndustryGroup in
      let j = kept.few axis.Industry in
      let f = kept.few axis.Final in
      let v = kept.few axis.Item in
      let t = kept.few axis.Tax in
      let p' : length cs.products ≤ 512 = omega (arith, p, length-map cs.products (λ (i : ProductClass). i.code)) in
      let j' : length cs.industries ≤ 256 = omega (arith, j, length-map cs.industries (λ (j : IndustryClass). j.code)) in
      simp (length-append, length-map) (omega (arith, m, g, p', h, j', f, v, t))

  pub classes-text-short : length (classes_text cs) ≤ 67108864
  unfolding classes_text
  classes-text-short =
      by (length (line_text class_header)) (length (flat_map line_text (class_lines cs))) (length (file_text class_header (class_lines cs))) (length (class_lines cs))
      (length-append (line_text class_header) (flat_map line_text (class_lines cs))) (omega arith) few-lines
      (subst (λ n. n ≤ length (class_lines cs) * 114) (sym (length-flat_map line_text (class_lines cs))) (sum_by-le (λ line. length (line_text line)) 114 (class_lines cs) lines-short))
    where
      by : (h b f n : ℕ) → f ≡ h + b → h ≤ 114 → n ≤ 924 → b ≤ n * 114 → f ≤ 67108864
      by h b f n e g k l = omega arith
