-- Printed classes read back as the same lists, with format 2.
use Rattle.std.proofs.Common.{◌≡◌, ◌<◌, ◌≤◌, ◌+◌, ◌∙◌, ◌++◌, ◌∷◌, ◌&&◌, ◌||◌, ℕ, zero, suc, List, [], Bool, true, false, not, nat_lt, Option, Some, None, Result, Ok, Err, length, map, refl, sym, ap, arith, append_assoc, length-append}
use Rattle.std.specs.Prelude.{◌==◌, All, IfSome, IsTrue, codes, is_some, nat_le, option_map, slice_get, unwrap_or}
use Rattle.std.specs.List.{list_all, position}
use Rattle.std.specs.Str.{bytes_eq}
use Rattle.std.proofs.lemmas.Bool.{lt-ltb, ltb-true}
use Rattle.std.proofs.lemmas.Bool.Decides.{nat_tests}
use Rattle.std.proofs.lemmas.List.{append-nil, map-append}
use Rattle.std.proofs.lemmas.Option.{get_or_from_slice_get, slice_get-map, slice_get_within}
use Rattle.csv.proofs.OnLiterals.{csv_on_literals}
use Rattle.csv.specs.Reading.{strip_bom}
use Rattle.sut_text.specs.Text.{file_text, line_text}
use Rattle.sut_records.specs.RecordList.{Fields, records_of}
use Rattle.sut_records.specs.FirstFault.{and_then, read_lines}
use Rattle.sut_records.proofs.FirstFaultLemmas.{line-judged, lines-ended}
use Rattle.sut_records.proofs.PlainText.{printed-file}
use Rattle.sut_classes.specs.ClassLists.{ClassLists, Code, ProductClass, IndustryClass}
use Rattle.sut_classes.specs.ClassFile.{axis_named, class_line, classes_in, classes_of, format_of, group_read, is_code, is_code_byte, is_code_of, is_margin, is_taken, kind_read, limit_of, no_classes, with_code}
use Rattle.sut_classes.specs.ClassText.{axis_word, class_header, class_lines, classes_text, code_text, group_text, industry_group_text, industry_line, kind_text, plain_line, product_line}
use Rattle.sut_classes.specs.Kept.{IsClasses}
use Rattle.sut_classes.specs.Places.{code_at, codes_of, count_of, place_of}
use Rattle.sut_classes.specs.declared.ids.MarginId.{MarginId}
use Rattle.sut_classes.specs.declared.ids.ProductGroupId.{ProductGroupId}
use Rattle.sut_classes.specs.declared.ids.IndustryGroupId.{IndustryGroupId}
use Rattle.sut_classes.specs.declared.ids.Axis.{Axis}
use Rattle.sut_classes.specs.declared.ids.Axis.TheVariants as axis
use Rattle.sut_classes.specs.declared.faults.ClassFault.{ClassFault}
use Rattle.sut_classes.proofs.CodeLemmas.{mapped-length}
use Rattle.sut_classes.proofs.FileLemmas.{under-format}
use Rattle.sut_classes.proofs.LineLemmas.{line-good}
use Rattle.sut_classes.proofs.PlaceLemmas.{place, place-front, position-is}
use Rattle.sut_classes.proofs.PlainLines.{both, header-plain, lines-plain}
use Rattle.sut_classes.proofs.PrintLemmas.{got}

seam : {X : Type 0} (xs : List X) (x : X) (ys : List X) → slice_get (xs ++ x ∷ ys) (length xs) ≡ Some x
seam [] x ys = refl
seam (y ∷ xs) x ys = seam xs x ys

-- The lines of one list, read from a state where what is read so far is `done`: `state` is the classes at each point, and
-- `listed` the codes of what was read.
record Section (X : Type 0) : Type 0 where
  code : X → Code
  line : X → Fields
  state : List X → ClassLists
  listed : List X → List Code
  split : (done : List X) (x : X) (left : List X) → listed (done ++ x ∷ left) ≡ listed done ++ (code x ∷ listed left)
  size : (xs : List X) → length (listed xs) ≡ length xs

-- each line of a list whose codes are distinct is judged right where it stands
record Reads {X : Type 0} (s : Section X) (all : List X) : Type 0 where
  distinct : (n : ℕ) (x : X) → slice_get all n ≡ Some x → position (bytes_eq (s.code x)) (s.listed all) ≡ Some n
  step : (done : List X) (x : X) (n : ℕ) → slice_get all (length done) ≡ Some x → position (bytes_eq (s.code x)) (s.listed done) ≡ None → length done < length all
      → class_line n (s.state done) (s.line x) ≡ Ok (s.state (done ++ x ∷ []))

in-front : {X : Type 0} (s : Section X) (all done left : List X) (x : X) → Reads s all → done ++ x ∷ left ≡ all → position (bytes_eq (s.code x)) (s.listed done) ≡ None
in-front s all done left x reads parts =
    let at : slice_get all (length done) ≡ Some x = rw (← parts) (seam done x left) in
    let here : position (bytes_eq (s.code x)) (s.listed done ++ (s.code x ∷ s.listed left)) ≡ Some (length (s.listed done)) =
    rw (← s.split done x left, s.size done, parts) (reads.distinct (length done) x at) in
    position-is (bytes_eq (s.code x)) (s.listed done)
    ∙ place-front (bytes_eq (s.code x)) (s.listed done) (s.code x ∷ s.listed left) (sym (position-is (bytes_eq (s.code x)) (s.listed done ++ (s.code x ∷ s.listed left))) ∙ here)

section-left : {X : Type 0} (s : Section X) (all : List X) (rest : List Fields) (r : Result ClassLists ClassFault) → Reads s all
    → ((m : ℕ) → read_lines class_line m (s.state all) rest ≡ r)
    → (left done : List X) → done ++ left ≡ all → (n : ℕ) → read_lines class_line n (s.state done) (map s.line left ++ rest) ≡ r
section-left s all rest r reads after [] done parts n =
    let same : done ≡ all = sym (append-nil done) ∙ parts in
    rw same (after n)
section-left s all rest r reads after (x ∷ left) done parts n =
    let at : slice_get all (length done) ≡ Some x = rw (← parts) (seam done x left) in
    let judged = reads.step done x n at (in-front s all done left x reads parts) (slice_get_within all (length done) x at) in
    line-judged class_line n (s.state done) (s.line x ∷ (map s.line left ++ rest)) (s.line x) (map s.line left ++ rest) (Ok (s.state (done ++ x ∷ []))) refl judged
    ∙ section-left s all rest r reads after left (done ++ x ∷ []) (append_assoc done (x ∷ []) left ∙ parts) (n + 1)

section : {X : Type 0} (s : Section X) (all : List X) (rest : List Fields) (r : Result ClassLists ClassFault) → Reads s all
    → ((m : ℕ) → read_lines class_line m (s.state all) rest ≡ r) → (n : ℕ) → read_lines class_line n (s.state []) (map s.line all ++ rest) ≡ r
section s all rest r reads after n = section-left s all rest r reads after all [] refl n

-- the classes after each list of a printed file
abbrev after-margins : List Code → ClassLists
after-margins ms = record (no_classes 2) { margins = ms }

abbrev after-product-groups : ClassLists → List Code → ClassLists
after-product-groups cs gs = record (after-margins cs.margins) { product_groups = gs }

abbrev after-products : ClassLists → List ProductClass → ClassLists
after-products cs ps = record (after-product-groups cs cs.product_groups) { products = ps }

abbrev after-industry-groups : ClassLists → List Code → ClassLists
after-industry-groups cs hs = record (after-products cs cs.products) { industry_groups = hs }

abbrev after-industries : ClassLists → List IndustryClass → ClassLists
after-industries cs js = record (after-industry-groups cs cs.industry_groups) { industries = js }

abbrev after-finals : ClassLists → List Code → ClassLists
after-finals cs fs = record (after-industries cs cs.industries) { finals = fs }

abbrev after-items : ClassLists → List Code → ClassLists
after-items cs vs = record (after-finals cs cs.finals) { items = vs }

abbrev after-taxes : ClassLists → List Code → ClassLists
after-taxes cs ts = record (after-items cs cs.items) { taxes = ts }

abbrev plain-section : Axis → (List Code → ClassLists) → Section Code
plain-section a state = record { code = λ c. c; line = plain_line a; state = state; listed = λ xs. xs; split = λ done x left. refl; size = λ xs. refl }

abbrev product-section : ClassLists → Section ProductClass
product-section cs = record {
  code = λ p. p.code;
  line = product_line cs;
  state = after-products cs;
  listed = map (λ p. p.code);
  split = λ done x left. map-append (λ (p : ProductClass). p.code) done (x ∷ left);
  size = mapped-length (λ (p : ProductClass). p.code);
}

abbrev industry-section : ClassLists → Section IndustryClass
industry-section cs = record {
  code = λ j. j.code;
  line = industry_line cs;
  state = after-industries cs;
  listed = map (λ j. j.code);
  split = λ done x left. map-append (λ (j : IndustryClass). j.code) done (x ∷ left);
  size = mapped-length (λ (j : IndustryClass). j.code);
}

-- a line with nothing beside its code
abbrev is_plain : Axis → Bool
is_plain axis.Product = false
is_plain axis.Industry = false
is_plain a = true

word-named : (a : Axis) → axis_named 2 (axis_word a) ≡ Some a
word-named axis.Product = refl
word-named axis.Industry = refl
word-named axis.Final = refl
word-named axis.Item = refl
word-named axis.Margin = refl
word-named axis.Tax = refl
word-named axis.ProductGroup = refl
word-named axis.IndustryGroup = refl

no-kind : (cs : ClassLists) (a : Axis) → is_plain a ≡ true → kind_read cs a [] ≡ Some None
no-kind cs axis.Product plain = cc
no-kind cs axis.Industry plain = refl
no-kind cs axis.Final plain = refl
no-kind cs axis.Item plain = refl
no-kind cs axis.Margin plain = refl
no-kind cs axis.Tax plain = refl
no-kind cs axis.ProductGroup plain = refl
no-kind cs axis.IndustryGroup plain = refl

no-group : (cs : ClassLists) (a : Axis) → group_read cs a [] ≡ Some None
no-group cs axis.Product = refl
no-group cs axis.Industry = refl
no-group cs axis.Final = refl
no-group cs axis.Item = refl
no-group cs axis.Margin = refl
no-group cs axis.Tax = refl
no-group cs axis.ProductGroup = refl
no-group cs axis.IndustryGroup = refl

plain-judged : (cs : ClassLists) (a : Axis) (code : Code) (n : ℕ) → cs.format ≡ 2 → is_plain a ≡ true → is_code_of a code ≡ true → is_taken cs a code ≡ false → count_of cs a < limit_of a
    → class_line n cs (plain_line a code) ≡ Ok (with_code cs a code None None)
plain-judged cs a code n format plain lawful free room =
    line-good n cs (plain_line a code) a None None (rw format refl) (rw format (word-named a)) lawful (no-kind cs a plain) (no-group cs a) free (lt-ltb (count_of cs a) (limit_of a) room)

margins-read : (cs : ClassLists) → IsClasses cs → Reads (plain-section axis.Margin after-margins) cs.margins
margins-read cs kept = record {
  distinct = kept.distinct axis.Margin;
  step = λ done c n at lost below.
      let few : length cs.margins ≤ 4 = kept.few axis.Margin in
      plain-judged (after-margins done) axis.Margin c n refl refl (kept.lawful axis.Margin (length done) c at) (ap is_some lost) (omega arith);
}

product-groups-read : (cs : ClassLists) → IsClasses cs → Reads (plain-section axis.ProductGroup (after-product-groups cs)) cs.product_groups
product-groups-read cs kept = record {
  distinct = kept.distinct axis.ProductGroup;
  step = λ done c n at lost below.
      let few : length cs.product_groups ≤ 64 = kept.few axis.ProductGroup in
      plain-judged (after-product-groups cs done) axis.ProductGroup c n refl refl (kept.lawful axis.ProductGroup (length done) c at) (ap is_some lost) (omega arith);
}

industry-groups-read : (cs : ClassLists) → IsClasses cs → Reads (plain-section axis.IndustryGroup (after-industry-groups cs)) cs.industry_groups
industry-groups-read cs kept = record {
  distinct = kept.distinct axis.IndustryGroup;
  step = λ done c n at lost below.
      let few : length cs.industry_groups ≤ 32 = kept.few axis.IndustryGroup in
      plain-judged (after-industry-groups cs done) axis.IndustryGroup c n refl refl (kept.lawful axis.IndustryGroup (length done) c at) (ap is_some lost) (omega arith);
}

finals-read : (cs : ClassLists) → IsClasses cs → Reads (plain-section axis.Final (after-finals cs)) cs.finals
finals-read cs kept = record {
  distinct = kept.distinct axis.Final;
  step = λ done c n at lost below.
      let few : length cs.finals ≤ 32 = kept.few axis.Final in
      let other : place_of cs axis.Industry c ≡ None = kept.apart (length done) c at in
      let free : is_taken (after-finals cs done) axis.Final c ≡ false = rw (other, lost) refl in
      plain-judged (after-finals cs done) axis.Final c n refl refl (kept.lawful axis.Final (length done) c at) free (omega arith);
}

items-read : (cs : ClassLists) → IsClasses cs → Reads (plain-section axis.Item (after-items cs)) cs.items
items-read cs kept = record {
  distinct = kept.distinct axis.Item;
  step = λ done c n at lost below.
      let few : length cs.items ≤ 16 = kept.few axis.Item in
      plain-judged (after-items cs done) axis.Item c n refl refl (kept.lawful axis.Item (length done) c at) (ap is_some lost) (omega arith);
}

taxes-read : (cs : ClassLists) → IsClasses cs → Reads (plain-section axis.Tax (after-taxes cs)) cs.taxes
taxes-read cs kept = record {
  distinct = kept.distinct axis.Tax;
  step = λ done c n at lost below.
      let few : length cs.taxes ≤ 8 = kept.few axis.Tax in
      plain-judged (after-taxes cs done) axis.Tax c n refl refl (kept.lawful axis.Tax (length done) c at) (ap is_some lost) (omega arith);
}

-- What holds of each element holds of the one at a place.
all-at : {X : Type 0} (P : X → Type 0) (xs : List X) (n : ℕ) (x : X) → All P xs → slice_get xs n ≡ Some x → P x
all-at P xs n x all at =
    let here = all n x (slice_get_within xs n x at) in
    rw (get_or_from_slice_get xs n x x at) at here

-- a code is read back as the place where it stands
code-back : (cs : ClassLists) → IsClasses cs → (a : Axis) (n : ℕ) → n < count_of cs a → (is_code_of a (code_text cs a n) ≡ true) × (place_of cs a (code_text cs a n) ≡ Some n)
code-back cs kept a n there =
    let at = got (codes_of cs a) n there in
    let same : code_text cs a n ≡ at.0 = ap (λ o. unwrap_or o []) at.1 in
    rw same (kept.lawful a n at.0 at.1, kept.distinct a n at.0 at.1)

suc-not-zero : (n : ℕ) → (suc n == 0) ≡ false
suc-not-zero n = grind (arith, nat_tests)

not-empty : (a : Axis) (text : Code) → is_code_of a text ≡ true → (length text == 0) ≡ false
not-empty a [] lawful = let code = (both (is_code []) (not (is_margin a && bytes_eq [] (codes "plain"))) lawful).0 in cc
not-empty a (b ∷ rest) lawful = suc-not-zero (length rest)

refused : (b : Bool) → not b ≡ true → b ≡ false
refused true e = cc
refused false e = refl

not-plain : (text : Code) → is_code_of axis.Margin text ≡ true → bytes_eq text (codes "plain") ≡ false
not-plain text lawful = refused (bytes_eq text (codes "plain")) (both (is_code text) (not (bytes_eq text (codes "plain"))) lawful).1

kind-back : (cs : ClassLists) (done : List ProductClass) (kind : Option MarginId) → IsClasses cs → IfSome kind (λ k. IsTrue (nat_lt k.0 (length cs.margins)))
    → kind_read (after-products cs done) axis.Product (kind_text cs kind) ≡ Some (option_map (λ k. k.0) kind)
kind-back cs done None kept there = refl
kind-back cs done (Some k) kept there =
    let back = code-back cs kept axis.Margin k.0 (ltb-true k.0 (length cs.margins) there) in
    rw (not-plain (code_text cs axis.Margin k.0) back.0, back.1) refl

group-back : (cs : ClassLists) (done : List ProductClass) (group : Option ProductGroupId) → IsClasses cs → IfSome group (λ g. IsTrue (nat_lt g.0 (length cs.product_groups)))
    → group_read (after-products cs done) axis.Product (group_text cs group) ≡ Some (option_map (λ g. g.0) group)
group-back cs done None kept there = refl
group-back cs done (Some g) kept there =
    let back = code-back cs kept axis.ProductGroup g.0 (ltb-true g.0 (length cs.product_groups) there) in
    rw (not-empty axis.ProductGroup (code_text cs axis.ProductGroup g.0) back.0, back.1) refl

industry-group-back : (cs : ClassLists) (done : List IndustryClass) (group : Option IndustryGroupId) → IsClasses cs → IfSome group (λ h. IsTrue (nat_lt h.0 (length cs.industry_groups)))
    → group_read (after-industries cs done) axis.Industry (industry_group_text cs group) ≡ Some (option_map (λ h. h.0) group)
industry-group-back cs done None kept there = refl
industry-group-back cs done (Some h) kept there =
    let back = code-back cs kept axis.IndustryGroup h.0 (ltb-true h.0 (length cs.industry_groups) there) in
    rw (not-empty axis.IndustryGroup (code_text cs axis.IndustryGroup h.0) back.0, back.1) refl

same-kind : (kind : Option MarginId) → option_map (λ k. record { 0 = k }) (option_map (λ (k : MarginId). k.0) kind) ≡ kind
same-kind None = refl
same-kind (Some k) = refl

same-group : (group : Option ProductGroupId) → option_map (λ g. record { 0 = g }) (option_map (λ (g : ProductGroupId). g.0) group) ≡ group
same-group None = refl
same-group (Some g) = refl

same-industry-group : (group : Option IndustryGroupId) → option_map (λ h. record { 0 = h }) (option_map (λ (h : IndustryGroupId). h.0) group) ≡ group
same-industry-group None = refl
same-industry-group (Some h) = refl

product-step : (cs : ClassLists) → IsClasses cs → (done : List ProductClass) (p : ProductClass) (n : ℕ) → slice_get cs.products (length done) ≡ Some p
    → position (bytes_eq p.code) (map (λ (i : ProductClass). i.code) done) ≡ None → length done < length cs.products
    → class_line n (after-products cs done) (product_line cs p) ≡ Ok (after-products cs (done ++ p ∷ []))
product-step cs kept done p n at lost below =
    let code : code_at cs axis.Product (length done) ≡ Some p.code = rw (slice_get-map (λ (i : ProductClass). i.code) cs.products (length done), at) refl in
    let count : length (map (λ (i : ProductClass). i.code) cs.products) ≤ 512 = kept.few axis.Product in
    let few : length cs.products ≤ 512 = rw (← mapped-length (λ (i : ProductClass). i.code) cs.products) count in
    let room : length (map (λ (i : ProductClass). i.code) done) < 512 = rw (mapped-length (λ (i : ProductClass). i.code) done) (omega arith) in
    let kind = kind-back cs done p.kind kept (all-at (λ (i : ProductClass). IfSome i.kind (λ k. IsTrue (nat_lt k.0 (length cs.margins)))) cs.products (length done) p kept.kinds at) in
    let group = group-back cs done p.group kept (all-at (λ (i : ProductClass). IfSome i.group (λ g. IsTrue (nat_lt g.0 (length cs.product_groups)))) cs.products (length done) p kept.products at) in
    line-good n (after-products cs done) (product_line cs p) axis.Product (option_map (λ k. k.0) p.kind) (option_map (λ g. g.0) p.group)
    refl refl (kept.lawful axis.Product (length done) p.code code) kind group (ap is_some lost) (lt-ltb (length (map (λ (i : ProductClass). i.code) done)) 512 room)
    ∙ (rw (same-kind p.kind, same-group p.group) refl)

industry-step : (cs : ClassLists) → IsClasses cs → (done : List IndustryClass) (j : IndustryClass) (n : ℕ) → slice_get cs.industries (length done) ≡ Some j
    → position (bytes_eq j.code) (map (λ (i : IndustryClass). i.code) done) ≡ None → length done < length cs.industries
    → class_line n (after-industries cs done) (industry_line cs j) ≡ Ok (after-industries cs (done ++ j ∷ []))
industry-step cs kept done j n at lost below =
    let code : code_at cs axis.Industry (length done) ≡ Some j.code = rw (slice_get-map (λ (i : IndustryClass). i.code) cs.industries (length done), at) refl in
    let count : length (map (λ (i : IndustryClass). i.code) cs.industries) ≤ 256 = kept.few axis.Industry in
    let few : length cs.industries ≤ 256 = rw (← mapped-length (λ (i : IndustryClass). i.code) cs.industries) count in
    let room : length (map (λ (i : IndustryClass). i.code) done) < 256 = rw (mapped-length (λ (i : IndustryClass). i.code) done) (omega arith) in
    let group = industry-group-back cs done j.group kept (all-at (λ (i : IndustryClass). IfSome i.group (λ h. IsTrue (nat_lt h.0 (length cs.industry_groups)))) cs.industries (length done) j kept.industries at) in
    let free : is_taken (after-industries cs done) axis.Industry j.code ≡ false = rw lost refl in
    line-good n (after-industries cs done) (industry_line cs j) axis.Industry None (option_map (λ h. h.0) j.group)
    refl refl (kept.lawful axis.Industry (length done) j.code code) refl group free (lt-ltb (length (map (λ (i : IndustryClass). i.code) done)) 256 room)
    ∙ (rw (same-industry-group j.group) refl)

products-read : (cs : ClassLists) → IsClasses cs → Reads (product-section cs) cs.products
products-read cs kept = record {
  distinct = λ n p at. kept.distinct axis.Product n p.code (rw (slice_get-map (λ (i : ProductClass). i.code) cs.products n, at) refl);
  step = product-step cs kept;
}

industries-read : (cs : ClassLists) → IsClasses cs → Reads (industry-section cs) cs.industries
industries-read cs kept = record {
  distinct = λ n j at. kept.distinct axis.Industry n j.code (rw (slice_get-map (λ (i : IndustryClass). i.code) cs.industries n, at) refl);
  step = industry-step cs kept;
}

-- all lines, list after list
regrouped : (a b c d e f g h : List Fields) → (((((((a ++ b) ++ c) ++ d) ++ e) ++ f) ++ g) ++ h) ≡ a ++ (b ++ (c ++ (d ++ (e ++ (f ++ (g ++ (h ++ [])))))))
regrouped a b c d e f g h = simp (append_assoc, append-nil)

lines-read : (cs : ClassLists) → IsClasses cs → (n : ℕ) → read_lines class_line n (no_classes 2) (class_lines cs) ≡ Ok (record cs { format = 2 })
lines-read cs kept n =
    let end = Ok (record cs { format = 2 }) in
    let t = section (plain-section axis.Tax (after-taxes cs)) cs.taxes [] end (taxes-read cs kept) (λ m. lines-ended class_line m (after-taxes cs cs.taxes) [] refl) in
    let i = section (plain-section axis.Item (after-items cs)) cs.items _ end (items-read cs kept) t in
    let f = section (plain-section axis.Final (after-finals cs)) cs.finals _ end (finals-read cs kept) i in
    let j = section (industry-section cs) cs.industries _ end (industries-read cs kept) f in
    let h = section (plain-section axis.IndustryGroup (after-industry-groups cs)) cs.industry_groups _ end (industry-groups-read cs kept) j in
    let p = section (product-section cs) cs.products _ end (products-read cs kept) h in
    let g = section (plain-section axis.ProductGroup (after-product-groups cs)) cs.product_groups _ end (product-groups-read cs kept) p in
    let m = section (plain-section axis.Margin after-margins) cs.margins _ end (margins-read cs kept) g in
    ap (λ ls. read_lines class_line n (no_classes 2) ls)
    (regrouped (map (plain_line axis.Margin) cs.margins) (map (plain_line axis.ProductGroup) cs.product_groups) (map (product_line cs) cs.products) (map (plain_line axis.IndustryGroup) cs.industry_groups)
    (map (industry_line cs) cs.industries) (map (plain_line axis.Final) cs.finals) (map (plain_line axis.Item) cs.items) (map (plain_line axis.Tax) cs.taxes))
    ∙ m n

no-mark : (lines : List Fields) → strip_bom (file_text class_header lines) ≡ file_text class_header lines
unfolding strip_bom
no-mark lines = refl

pub printed-classes : (cs : ClassLists) → IsClasses cs → classes_of (classes_text cs) ≡ Ok (record cs { format = 2 })
unfolding classes_text
printed-classes cs kept =
    under-format (records_of (file_text class_header (class_lines cs))) class_header (class_lines cs) 2
    (printed-file class_header (class_lines cs) header-plain (lines-plain cs kept) (no-mark (class_lines cs))) refl
    ∙ lines-read cs kept 2
