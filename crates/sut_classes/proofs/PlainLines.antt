-- The lines of printed classes need no quotes.
use Rattle.std.proofs.Common.{◌≡◌, ◌<◌, ◌≤◌, ◌++◌, ◌∷◌, ◌&&◌, ◌||◌, ℕ, zero, suc, List, [], Bool, true, false, not, Option, Some, None, length, map, refl, sym, arith, inl, inr}
use Rattle.std.specs.Prelude.{◌==◌, codes, nat_le, slice_get, unwrap_or}
use Rattle.std.specs.List.{list_all, list_any}
use Rattle.std.specs.Str.{bytes_eq}
use Rattle.std.proofs.lemmas.Bool.{cases_Bool, eqb-true}
use Rattle.std.proofs.lemmas.Option.{slice_get-map}
use Rattle.sut_text.specs.Text.{needs_quotes}
use Rattle.sut_records.specs.RecordList.{Fields}
use Rattle.sut_records.specs.Plain.{ArePlain, ArePlainRows, IsPlainRow}
use Rattle.sut_classes.specs.ClassLists.{ClassLists, Code, ProductClass, IndustryClass}
use Rattle.sut_classes.specs.ClassFile.{is_code, is_code_byte, is_code_of, is_margin}
use Rattle.sut_classes.specs.ClassText.{axis_word, class_header, class_lines, code_text, group_text, industry_group_text, industry_line, kind_text, plain_line, product_line}
use Rattle.sut_classes.specs.Kept.{IsClasses}
use Rattle.sut_classes.specs.Places.{code_at, codes_of}
use Rattle.sut_classes.specs.declared.ids.MarginId.{MarginId}
use Rattle.sut_classes.specs.declared.ids.ProductGroupId.{ProductGroupId}
use Rattle.sut_classes.specs.declared.ids.IndustryGroupId.{IndustryGroupId}
use Rattle.sut_classes.specs.declared.ids.Axis.{Axis}
use Rattle.sut_classes.specs.declared.ids.Axis.TheVariants as axis

pub both : (a b : Bool) → (a && b) ≡ true → (a ≡ true) × (b ≡ true)
both true b e = (refl, e)
both false b e = cc

-- a byte of a code is none of the four that want quotes
not-marked : (b mark : ℕ) → is_code_byte mark ≡ false → is_code_byte b ≡ true → (b == mark) ≡ false
not-marked b mark bad good = elim (cases_Bool (b == mark)) [
  | inl same ↦ let is : b ≡ mark = eqb-true b mark same in let clash : is_code_byte mark ≡ true = rw is at good in cc
  | inr other ↦ other
]

plain-byte : (b : ℕ) → is_code_byte b ≡ true → ((b == 44) || ((b == 34) || ((b == 13) || (b == 10)))) ≡ false
plain-byte b good = rw (not-marked b 44 refl good, not-marked b 34 refl good, not-marked b 13 refl good, not-marked b 10 refl good) refl

plain-bytes : (text : List ℕ) → list_all is_code_byte text ≡ true → needs_quotes text ≡ false
plain-bytes [] good = refl
plain-bytes (b ∷ rest) good =
    let h = both (is_code_byte b) (list_all is_code_byte rest) good in
    rw (plain-byte b h.0, plain-bytes rest h.1) refl

pub plain-code : (a : Axis) (text : Code) → is_code_of a text ≡ true → needs_quotes text ≡ false
plain-code a text lawful =
    let code = (both (is_code text) (not (is_margin a && bytes_eq text (codes "plain"))) lawful).0 in
    plain-bytes text (both (nat_le 1 (length text) && nat_le (length text) 32) (list_all is_code_byte text) code).1

there-plain : (a : Axis) (o : Option Code) → ((code : Code) → o ≡ Some code → is_code_of a code ≡ true) → needs_quotes (unwrap_or o []) ≡ false
there-plain a None lawful = refl
there-plain a (Some code) lawful = plain-code a code (lawful code refl)

plain-text : (cs : ClassLists) → IsClasses cs → (a : Axis) (n : ℕ) → needs_quotes (code_text cs a n) ≡ false
plain-text cs kept a n = there-plain a (code_at cs a n) (kept.lawful a n)

plain-word : (a : Axis) → needs_quotes (axis_word a) ≡ false
plain-word axis.Product = refl
plain-word axis.Industry = refl
plain-word axis.Final = refl
plain-word axis.Item = refl
plain-word axis.Margin = refl
plain-word axis.Tax = refl
plain-word axis.ProductGroup = refl
plain-word axis.IndustryGroup = refl

plain-kind : (cs : ClassLists) → IsClasses cs → (kind : Option MarginId) → needs_quotes (kind_text cs kind) ≡ false
plain-kind cs kept None = refl
plain-kind cs kept (Some k) = plain-text cs kept axis.Margin k.0

plain-group : (cs : ClassLists) → IsClasses cs → (group : Option ProductGroupId) → needs_quotes (group_text cs group) ≡ false
plain-group cs kept None = refl
plain-group cs kept (Some g) = plain-text cs kept axis.ProductGroup g.0

plain-industry-group : (cs : ClassLists) → IsClasses cs → (group : Option IndustryGroupId) → needs_quotes (industry_group_text cs group) ≡ false
plain-industry-group cs kept None = refl
plain-industry-group cs kept (Some h) = plain-text cs kept axis.IndustryGroup h.0

four-plain : (w c k g : List ℕ) → needs_quotes w ≡ false → needs_quotes c ≡ false → needs_quotes k ≡ false → needs_quotes g ≡ false → IsPlainRow (w ∷ c ∷ k ∷ g ∷ [])
four-plain w c k g e f h i = record { wide = omega arith; plain = (e, (f, (h, (i, tt)))) }

rows-plain : {X : Type 0} (f : X → Fields) (xs : List X) → ((n : ℕ) (x : X) → slice_get xs n ≡ Some x → IsPlainRow (f x)) → ArePlainRows (map f xs)
rows-plain f [] each = tt
rows-plain f (x ∷ xs) each = (each 0 x refl, rows-plain f xs (λ n y at. each (suc n) y at))

joined-plain : (xs ys : List Fields) → ArePlainRows xs → ArePlainRows ys → ArePlainRows (xs ++ ys)
joined-plain [] ys e f = f
joined-plain (x ∷ xs) ys e f = (e.0, joined-plain xs ys e.1 f)

codes-plain : (cs : ClassLists) → IsClasses cs → (a : Axis) → ArePlainRows (map (plain_line a) (codes_of cs a))
codes-plain cs kept a = rows-plain (plain_line a) (codes_of cs a)
    (λ n code at. four-plain (axis_word a) code [] [] (plain-word a) (plain-code a code (kept.lawful a n code at)) refl refl)

products-plain : (cs : ClassLists) → IsClasses cs → ArePlainRows (map (product_line cs) cs.products)
products-plain cs kept = rows-plain (product_line cs) cs.products
    (λ n p at.
    let code : code_at cs axis.Product n ≡ Some p.code = rw (slice_get-map (λ (i : ProductClass). i.code) cs.products n, at) refl in
    four-plain (axis_word axis.Product) p.code (kind_text cs p.kind) (group_text cs p.group) refl (plain-code axis.Product p.code (kept.lawful axis.Product n p.code code)) (plain-kind cs kept p.kind) (plain-group cs kept p.group))

industries-plain : (cs : ClassLists) → IsClasses cs → ArePlainRows (map (industry_line cs) cs.industries)
industries-plain cs kept = rows-plain (industry_line cs) cs.industries
    (λ n j at.
    let code : code_at cs axis.Industry n ≡ Some j.code = rw (slice_get-map (λ (i : IndustryClass). i.code) cs.industries n, at) refl in
    four-plain (axis_word axis.Industry) j.code [] (industry_group_text cs j.group) refl (plain-code axis.Industry j.code (kept.lawful axis.Industry n j.code code)) refl (plain-industry-group cs kept j.group))

eight-plain : (a b c d e f g h : List Fields) → ArePlainRows a → ArePlainRows b → ArePlainRows c → ArePlainRows d → ArePlainRows e → ArePlainRows f → ArePlainRows g → ArePlainRows h
    → ArePlainRows (((((((a ++ b) ++ c) ++ d) ++ e) ++ f) ++ g) ++ h)
eight-plain a b c d e f g h pa pb pc pd pe pf pg ph =
    joined-plain (((((((a ++ b) ++ c) ++ d) ++ e) ++ f) ++ g)) h
    (joined-plain ((((((a ++ b) ++ c) ++ d) ++ e) ++ f)) g
    (joined-plain (((((a ++ b) ++ c) ++ d) ++ e)) f
    (joined-plain ((((a ++ b) ++ c) ++ d)) e
    (joined-plain (((a ++ b) ++ c)) d
    (joined-plain ((a ++ b)) c
    (joined-plain a b pa pb) pc) pd) pe) pf) pg) ph

pub lines-plain : (cs : ClassLists) → IsClasses cs → ArePlainRows (class_lines cs)
lines-plain cs kept =
    eight-plain _ _ _ _ _ _ _ _ (codes-plain cs kept axis.Margin) (codes-plain cs kept axis.ProductGroup) (products-plain cs kept) (codes-plain cs kept axis.IndustryGroup) (industries-plain cs kept) (codes-plain cs kept axis.Final) (codes-plain cs kept axis.Item) (codes-plain cs kept axis.Tax)

pub header-plain : IsPlainRow class_header
header-plain = four-plain (codes "axis") (codes "code") (codes "kind") (codes "group") refl refl refl refl
