-- The lines of printed certificates need no quotes.
use Rattle.std.proofs.Common.{◌≡◌, ◌<◌, ◌^◌, ◌∷◌, ◌||◌, ◌==◌, ℕ, suc, ℤ, pos, negsuc, List, [], true, false, Option, Some, None, map, refl, arith, inl, inr}
use Rattle.std.specs.Prelude.{All, unwrap_or, neg_ℤ, ◌≤ℤ◌}
use Rattle.std.proofs.lemmas.Int.{ints}
use Rattle.std.specs.Char.{digit_value, is_ascii_digit}
use Rattle.std.specs.Str.Parse.{AllDigits}
use lib.Signed.{mag}
use Rattle.std.proofs.lemmas.Bool.{cases_Bool, eqb-true}
use Rattle.std.proofs.lemmas.Fmt.{decimal_is_IsNumeral_wide}
use Rattle.std.proofs.lemmas.List.Elements.{All-head, All-tail}
use Rattle.std.proofs.lemmas.Str.Parse.{digit_from_value}
use Rattle.std.specs.Fmt.{decimal}
use Rattle.sut_text.specs.Text.{needs_quotes, whole_text}
use Rattle.sut_records.specs.Plain.{ArePlain, ArePlainRows, IsPlainRow}
use Rattle.sut_classes.specs.ClassLists.{ClassLists, Code}
use Rattle.sut_classes.specs.ClassFile.{is_code_of}
use Rattle.sut_classes.specs.Kept.{IsClasses}
use Rattle.sut_classes.specs.Places.{code_at}
use Rattle.sut_classes.specs.declared.ids.Axis.{Axis}
use Rattle.sut_classes.specs.declared.ids.Axis.TheVariants as axis
use Rattle.sut_classes.specs.declared.ids.Column.{Column}
use Rattle.sut_classes.specs.declared.ids.Column.TheVariants as column
use Rattle.sut_classes.proofs.PlainLines.{plain-code}
use Rattle.sut_measures.specs.Names.{account_fields, code, column_code}
use Rattle.sut_measures.specs.declared.accounts.Account.{Account}
use Rattle.sut_measures.specs.declared.accounts.Account.TheVariants as account
use Rattle.sut_cert.specs.Certificates.{IsPotential}
use Rattle.sut_cert.specs.CertificateFile.{cut_header, potentials_header}
use Rattle.sut_cert.specs.CertificateText.{potential_fields}

-- ---- codes

there-plain : (a : Axis) (o : Option Code) → ((text : Code) → o ≡ Some text → is_code_of a text ≡ true) → needs_quotes (unwrap_or o []) ≡ false
there-plain a None lawful = refl
there-plain a (Some text) lawful = plain-code a text (lawful text refl)

plain-place : (cs : ClassLists) → IsClasses cs → (a : Axis) (n : ℕ) → needs_quotes (code cs a n) ≡ false
plain-place cs kept a n = there-plain a (code_at cs a n) (kept.lawful a n)

plain-column : (cs : ClassLists) → IsClasses cs → (q : Column) → needs_quotes (column_code cs q) ≡ false
plain-column cs kept (column.Industry j) = plain-place cs kept axis.Industry j.0
plain-column cs kept (column.Final f) = plain-place cs kept axis.Final f.0

-- ---- numbers

ascii-digit : (d : ℕ) → digit_value d < 10 → is_ascii_digit d ≡ true
ascii-digit d h = let k = digit_from_value d h in grind arith

-- a digit is none of the four bytes that want quotes
not-marked : (b mark : ℕ) → is_ascii_digit mark ≡ false → is_ascii_digit b ≡ true → (b == mark) ≡ false
not-marked b mark bad good = elim (cases_Bool (b == mark)) [
  | inl same ↦ let is : b ≡ mark = eqb-true b mark same in let clash : is_ascii_digit mark ≡ true = rw is at good in cc
  | inr other ↦ other
]

plain-digit : (b : ℕ) → is_ascii_digit b ≡ true → ((b == 44) || ((b == 34) || ((b == 13) || (b == 10)))) ≡ false
plain-digit b good = rw (not-marked b 44 refl good, not-marked b 34 refl good, not-marked b 13 refl good, not-marked b 10 refl good) refl

plain-digits : (ds : List ℕ) → AllDigits 10 ds → needs_quotes ds ≡ false
plain-digits [] h = refl
plain-digits (d ∷ ds) h = rw (plain-digit d (ascii-digit d h.0), plain-digits ds h.1) refl

plain-decimal : (n : ℕ) → n < 10 ^ 64 → needs_quotes (decimal n) ≡ false
plain-decimal n small = plain-digits (decimal n) (decimal_is_IsNumeral_wide n small).0.1

pub potential-small : (z : ℤ) → IsPotential z → mag z < 2 ^ 127
potential-small (pos n) r =
    let high : pos n ≤ℤ pos 1000000000000000000000000 = r.high in omega (arith, ints)
potential-small (negsuc n) r =
    let low : neg_ℤ (pos 1000000000000000000000000) ≤ℤ negsuc n = r.low in omega (arith, ints)

plain-number : (z : ℤ) → IsPotential z → needs_quotes (whole_text z) ≡ false
plain-number (pos n) r = plain-decimal n (omega (arith, potential-small (pos n) r))
plain-number (negsuc n) r = plain-decimal (suc n) (omega (arith, potential-small (negsuc n) r))

-- ---- lines

account-plain : (cs : ClassLists) → IsClasses cs → (x : Account) → ArePlain (account_fields cs x)
account-plain cs k (account.Supplied i) = (refl, (plain-place cs k axis.Product i.0, (refl, tt)))
account-plain cs k (account.Used i) = (refl, (plain-place cs k axis.Product i.0, (refl, tt)))
account-plain cs k (account.Bought i q) = (refl, (plain-place cs k axis.Product i.0, (plain-column cs k q, tt)))
account-plain cs k (account.Buying j) = (refl, (plain-place cs k axis.Industry j.0, (refl, tt)))
account-plain cs k (account.Adding j) = (refl, (plain-place cs k axis.Industry j.0, (refl, tt)))
account-plain cs k (account.Industry j) = (refl, (plain-place cs k axis.Industry j.0, (refl, tt)))
account-plain cs k (account.Making j) = (refl, (plain-place cs k axis.Industry j.0, (refl, tt)))
account-plain cs k (account.Final f) = (refl, (plain-place cs k axis.Final f.0, (refl, tt)))
account-plain cs k (account.Item v) = (refl, (plain-place cs k axis.Item v.0, (refl, tt)))
account-plain cs k account.Imports = (refl, (refl, (refl, tt)))
account-plain cs k (account.Services m) = (refl, (plain-place cs k axis.Margin m.0, (refl, tt)))
account-plain cs k (account.Margins m) = (refl, (plain-place cs k axis.Margin m.0, (refl, tt)))
account-plain cs k (account.MarginOf m i) = (refl, (plain-place cs k axis.Margin m.0, (plain-place cs k axis.Product i.0, tt)))
account-plain cs k (account.Taxes t) = (refl, (plain-place cs k axis.Tax t.0, (refl, tt)))
account-plain cs k (account.TaxOf t i) = (refl, (plain-place cs k axis.Tax t.0, (plain-place cs k axis.Product i.0, tt)))
account-plain cs k account.Spending = (refl, (refl, (refl, tt)))
account-plain cs k account.Income = (refl, (refl, (refl, tt)))
account-plain cs k (account.MakingIn g j) = (refl, (plain-place cs k axis.ProductGroup g.0, (plain-place cs k axis.Industry j.0, tt)))
account-plain cs k (account.Importing g) = (refl, (plain-place cs k axis.ProductGroup g.0, (refl, tt)))
account-plain cs k (account.BuyingIn g q) = (refl, (plain-place cs k axis.ProductGroup g.0, (plain-column cs k q, tt)))
account-plain cs k (account.MarginIn m g) = (refl, (plain-place cs k axis.Margin m.0, (plain-place cs k axis.ProductGroup g.0, tt)))
account-plain cs k (account.TaxIn t g) = (refl, (plain-place cs k axis.Tax t.0, (plain-place cs k axis.ProductGroup g.0, tt)))
account-plain cs k (account.ItemIn v h) = (refl, (plain-place cs k axis.Item v.0, (plain-place cs k axis.IndustryGroup h.0, tt)))

one-more : (w a b : List ℕ) (n : List ℕ) → ArePlain (w ∷ a ∷ b ∷ []) → needs_quotes n ≡ false → IsPlainRow (w ∷ a ∷ b ∷ n ∷ [])
one-more w a b n h e = record { wide = omega arith; plain = (h.0, (h.1.0, (h.1.1.0, (e, tt)))) }

pub accounts-plain : (cs : ClassLists) → IsClasses cs → (set : List Account) → ArePlainRows (map (account_fields cs) set)
accounts-plain cs kept [] = tt
accounts-plain cs kept (a ∷ set) = (record { wide = omega arith; plain = account-plain cs kept a }, accounts-plain cs kept set)

pub potentials-plain : (cs : ClassLists) → IsClasses cs → (ps : List (Account × ℤ)) → All (λ (a : Account × ℤ). IsPotential a.1) ps → ArePlainRows (map (potential_fields cs) ps)
potentials-plain cs kept [] all = tt
potentials-plain cs kept (p ∷ ps) all = (
  one-more _ _ _ (whole_text p.1) (account-plain cs kept p.0) (plain-number p.1 (All-head (λ (a : Account × ℤ). IsPotential a.1) p ps all)),
  potentials-plain cs kept ps (All-tail (λ (a : Account × ℤ). IsPotential a.1) p ps all),
)

pub potentials_header-plain : IsPlainRow potentials_header
potentials_header-plain = record { wide = omega arith; plain = (refl, (refl, (refl, (refl, tt)))) }

pub cut_header-plain : IsPlainRow cut_header
cut_header-plain = record { wide = omega arith; plain = (refl, (refl, (refl, tt))) }
