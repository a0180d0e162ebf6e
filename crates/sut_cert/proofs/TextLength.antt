-- A printed certificate has at most 67,108,864 bytes.
use Rattle.std.proofs.Common.{◌≡◌, ℕ, suc, ◌+◌, ◌*◌, ◌≤◌, ℤ, pos, negsuc, neg_ℤ, ◌≤ℤ◌, List, [], ◌∷◌, ◌&&◌, length, map, true, not, Option, Some, None, refl, sym, ap, subst, arith, length-append}
use Rattle.std.specs.Prelude.{All, IsTrue, nat_le, unwrap_or, codes}
use Rattle.std.specs.List.{flat_map, list_all}
use Rattle.std.specs.Str.{bytes_eq}
use Rattle.std.proofs.lemmas.Bool.{leb-true}
use Rattle.std.proofs.lemmas.Fmt.{length-decimal-le_wide}
use Rattle.std.proofs.lemmas.Int.{ints}
use Rattle.std.proofs.lemmas.List.{length-map}
use Rattle.std.proofs.lemmas.List.Concat.{length-flat_map}
use Rattle.std.proofs.lemmas.List.Elements.{All-map}
use Rattle.std.proofs.lemmas.List.Sums.{sum_by-le}
use Rattle.sut_text.specs.Text.{file_text, line_text, whole_text}
use Rattle.sut_records.specs.RecordList.{Fields}
use Rattle.sut_classes.specs.ClassFile.{is_code, is_code_byte, is_code_of, is_margin}
use Rattle.sut_classes.specs.ClassLists.{ClassLists, Code}
use Rattle.sut_classes.specs.Kept.{IsClasses}
use Rattle.sut_classes.specs.Places.{code_at}
use Rattle.sut_classes.specs.declared.ids.Axis.{Axis}
use Rattle.sut_classes.specs.declared.ids.Axis.TheVariants as axis
use Rattle.sut_classes.specs.declared.ids.Column.{Column}
use Rattle.sut_classes.specs.declared.ids.Column.TheVariants as column
use Rattle.sut_measures.specs.Fits.{account_fits}
use Rattle.sut_measures.specs.Names.{AccountName, account_fields, account_name, code, column_code}
use Rattle.sut_measures.specs.declared.accounts.Account.{Account}
use Rattle.sut_measures.specs.declared.accounts.Account.TheVariants as account
use Rattle.sut_tables.specs.ProblemFacts.{ProblemFacts}
use Rattle.sut_tables.specs.Problems.{IsProblem, live_accounts}
use Rattle.sut_tables.proofs.LiveFits.{live-accounts-fit}
use Rattle.sut_cert.specs.Certificates.{IsAccountSet, IsPotential, IsPotentials, has_account}
use Rattle.sut_cert.specs.CertificateFile.{cut_header, potentials_header}
use Rattle.sut_cert.specs.CertificateText.{cut_text, potential_fields, potentials_text}
use Rattle.sut_tables.proofs.Ascending.{accounts-ascending}
use Rattle.sut_cert.proofs.AccountSearch.{account-among}
use Rattle.sut_cert.proofs.ClassFacts.{groups-there}
use Rattle.sut_cert.proofs.FewAccounts.{few-accounts}
use Rattle.sut_cert.proofs.Ranges.{both}

-- ---- codes and numbers

there-short : (a : Axis) (o : Option Code) → ((text : Code) → o ≡ Some text → is_code_of a text ≡ true) → length (unwrap_or o []) ≤ 32
there-short a None lawful = omega arith
there-short a (Some text) lawful =
    let is = (both (is_code text) (not (is_margin a && bytes_eq text (codes "plain"))) (lawful text refl)).0 in
    let sized = (both (nat_le 1 (length text) && nat_le (length text) 32) (list_all is_code_byte text) is).0 in
    leb-true (length text) 32 (both (nat_le 1 (length text)) (nat_le (length text) 32) sized).1

pub short-place : (cs : ClassLists) → IsClasses cs → (a : Axis) (n : ℕ) → length (code cs a n) ≤ 32
short-place cs kept a n = there-short a (code_at cs a n) (kept.lawful a n)

pub short-column : (cs : ClassLists) → IsClasses cs → (q : Column) → length (column_code cs q) ≤ 32
short-column cs kept (column.Industry j) = short-place cs kept axis.Industry j.0
short-column cs kept (column.Final f) = short-place cs kept axis.Final f.0

short-number : (z : ℤ) → IsPotential z → length (whole_text z) ≤ 26
short-number (pos n) r =
    let high : pos n ≤ℤ pos 1000000000000000000000000 = r.high in
    let small : n ≤ 1000000000000000000000000 = omega (arith, ints) in
    let short = length-decimal-le_wide 25 n (omega arith) (omega arith) (omega arith) in omega arith
short-number (negsuc n) r =
    let low : neg_ℤ (pos 1000000000000000000000000) ≤ℤ negsuc n = r.low in
    let small : suc n ≤ 1000000000000000000000000 = omega (arith, ints) in
    let short = length-decimal-le_wide 25 (suc n) (omega arith) (omega arith) (omega arith) in omega arith

-- ---- lines

record IsShort (n : AccountName) : Type 0 where
  word : length n.word ≤ 9
  a : length n.a ≤ 32
  b : length n.b ≤ 32

none : length {A = ℕ} [] ≤ 32
none = omega arith

name-short : (cs : ClassLists) → IsClasses cs → (x : Account) → IsShort (account_name cs x)
name-short cs k (account.Supplied i) = record { word = omega arith; a = short-place cs k axis.Product i.0; b = none }
name-short cs k (account.Used i) = record { word = omega arith; a = short-place cs k axis.Product i.0; b = none }
name-short cs k (account.Bought i q) = record { word = omega arith; a = short-place cs k axis.Product i.0; b = short-column cs k q }
name-short cs k (account.Buying j) = record { word = omega arith; a = short-place cs k axis.Industry j.0; b = none }
name-short cs k (account.Adding j) = record { word = omega arith; a = short-place cs k axis.Industry j.0; b = none }
name-short cs k (account.Industry j) = record { word = omega arith; a = short-place cs k axis.Industry j.0; b = none }
name-short cs k (account.Making j) = record { word = omega arith; a = short-place cs k axis.Industry j.0; b = none }
name-short cs k (account.Final f) = record { word = omega arith; a = short-place cs k axis.Final f.0; b = none }
name-short cs k (account.Item v) = record { word = omega arith; a = short-place cs k axis.Item v.0; b = none }
name-short cs k account.Imports = record { word = omega arith; a = none; b = none }
name-short cs k (account.Services m) = record { word = omega arith; a = short-place cs k axis.Margin m.0; b = none }
name-short cs k (account.Margins m) = record { word = omega arith; a = short-place cs k axis.Margin m.0; b = none }
name-short cs k (account.MarginOf m i) = record { word = omega arith; a = short-place cs k axis.Margin m.0; b = short-place cs k axis.Product i.0 }
name-short cs k (account.Taxes t) = record { word = omega arith; a = short-place cs k axis.Tax t.0; b = none }
name-short cs k (account.TaxOf t i) = record { word = omega arith; a = short-place cs k axis.Tax t.0; b = short-place cs k axis.Product i.0 }
name-short cs k account.Spending = record { word = omega arith; a = none; b = none }
name-short cs k account.Income = record { word = omega arith; a = none; b = none }
name-short cs k (account.MakingIn g j) = record { word = omega arith; a = short-place cs k axis.ProductGroup g.0; b = short-place cs k axis.Industry j.0 }
name-short cs k (account.Importing g) = record { word = omega arith; a = short-place cs k axis.ProductGroup g.0; b = none }
name-short cs k (account.BuyingIn g q) = record { word = omega arith; a = short-place cs k axis.ProductGroup g.0; b = short-column cs k q }
name-short cs k (account.MarginIn m g) = record { word = omega arith; a = short-place cs k axis.Margin m.0; b = short-place cs k axis.ProductGroup g.0 }
name-short cs k (account.TaxIn t g) = record { word = omega arith; a = short-place cs k axis.Tax t.0; b = short-place cs k axis.ProductGroup g.0 }
name-short cs k (account.ItemIn v h) = record { word = omega arith; a = short-place cs k axis.Item v.0; b = short-place cs k axis.IndustryGroup h.0 }

length-three : (w a b : List ℕ) → length (line_text (w ∷ a ∷ b ∷ [])) ≡ length w + length a + length b + 3
length-three w a b = simp length-append (omega arith)

length-four : (w a b n : List ℕ) → length (line_text (w ∷ a ∷ b ∷ n ∷ [])) ≡ length w + length a + length b + length n + 4
length-four w a b n = simp length-append (omega arith)

account-short : (cs : ClassLists) → IsClasses cs → (x : Account) → length (line_text (account_fields cs x)) ≤ 103
account-short cs kept x =
    let s = name-short cs kept x in
    let n = account_name cs x in
    by (length n.word) (length n.a) (length n.b) (length (line_text (account_fields cs x))) (length-three n.word n.a n.b) s.word s.a s.b
  where
    by : (w a b l : ℕ) → l ≡ w + a + b + 3 → w ≤ 9 → a ≤ 32 → b ≤ 32 → l ≤ 103
    by w a b l e h g k = omega arith

potential-short : (cs : ClassLists) → IsClasses cs → (p : Account × ℤ) → IsPotential p.1 → length (line_text (potential_fields cs p)) ≤ 103
potential-short cs kept p r =
    let s = name-short cs kept p.0 in
    let n = account_name cs p.0 in
    by (length n.word) (length n.a) (length n.b) (length (whole_text p.1)) (length (line_text (potential_fields cs p))) (length-four n.word n.a n.b (whole_text p.1)) s.word s.a s.b (short-number p.1 r)
  where
    by : (w a b z l : ℕ) → l ≡ w + a + b + z + 4 → w ≤ 9 → a ≤ 32 → b ≤ 32 → z ≤ 26 → l ≤ 103
    by w a b z l e h g k m = omega arith

-- ---- the file

lines-short : (header : Fields) (lines : List Fields) → length (line_text header) ≤ 103 → length lines ≤ 552960 → All (λ line. length (line_text line) ≤ 103) lines
    → length (file_text header lines) ≤ 67108864
lines-short header lines top few all =
    by (length (line_text header)) (length (flat_map line_text lines)) (length (file_text header lines)) (length lines) (length-append (line_text header) (flat_map line_text lines)) top few
    (subst (λ n. n ≤ length lines * 103) (sym (length-flat_map line_text lines)) (sum_by-le (λ line. length (line_text line)) 103 lines all))
  where
    by : (h b f n : ℕ) → f ≡ h + b → h ≤ 103 → n ≤ 552960 → b ≤ n * 103 → f ≤ 67108864
    by h b f n e g k l = omega arith

pub potentials-short : (p : ProblemFacts) → IsProblem p → IsClasses p.classes → (ps : List (Account × ℤ)) → IsPotentials ps
    → map (λ (a : Account × ℤ). a.0) ps ≡ live_accounts p → length (potentials_text p.classes ps) ≤ 67108864
unfolding potentials_text
potentials-short p ok kept ps good names =
    let live = live-accounts-fit p ok (groups-there p.classes kept) in
    let few = few-accounts p.classes kept (live_accounts p) (accounts-ascending p) live in
    let count : length (map (potential_fields p.classes) ps) ≤ 552960 = omega (arith, few, length-map ps (potential_fields p.classes), length-map ps (λ (a : Account × ℤ). a.0), ap length names) in
    lines-short potentials_header (map (potential_fields p.classes) ps) (omega arith) count
    (All-map (λ line. length (line_text line) ≤ 103) (potential_fields p.classes) ps (λ k d h. potential-short p.classes kept _ (good.in_range k d h)))

pub cut-short : (p : ProblemFacts) → IsProblem p → IsClasses p.classes → (set : List Account) → IsAccountSet set
    → All (λ a. IsTrue (has_account (live_accounts p) a)) set → length (cut_text p.classes set) ≤ 67108864
unfolding cut_text
cut-short p ok kept set asc alive =
    let live = live-accounts-fit p ok (groups-there p.classes kept) in
    let fit : All (λ a. account_fits p.classes a ≡ true) set = λ k d h. account-among (λ a. account_fits p.classes a ≡ true) (live_accounts p) _ live (alive k d h) in
    let few = few-accounts p.classes kept set asc fit in
    let count : length (map (account_fields p.classes) set) ≤ 552960 = omega (arith, few, length-map set (account_fields p.classes)) in
    lines-short cut_header (map (account_fields p.classes) set) (omega arith) count
    (All-map (λ line. length (line_text line) ≤ 103) (account_fields p.classes) set (λ k d h. account-short p.classes kept _))
