-- A printed certificate reads back as it was.
use Rattle.std.proofs.Common.{◌≡◌, ◌+◌, ◌∷◌, ◌++◌, ℕ, ℤ, List, [], true, Option, Some, Result, Ok, Err, length, map, refl, sym, ap, subst, ◌∙◌, append_assoc, arith, if◌then◌else◌}
use Rattle.std.specs.Prelude.{All, IsTrue, slice_get, nat_le}
use Rattle.std.proofs.lemmas.Bool.{le-leb}
use Rattle.std.proofs.lemmas.List.{append-nil, length-map}
use Rattle.std.proofs.lemmas.List.Elements.{All-nil, All-cons, All-head, All-tail}
use Rattle.csv.specs.Reading.{strip_bom}
use Rattle.sut_text.specs.Number.{whole_of}
use Rattle.sut_text.specs.Text.{file_text, whole_text}
use Rattle.sut_text.proofs.Spelling.{whole-spelled}
use Rattle.sut_records.specs.RecordList.{Fields, records_of}
use Rattle.sut_records.specs.FirstFault.{and_then, fault_as, only_if, read_lines}
use Rattle.sut_records.proofs.FirstFaultLemmas.{line-judged, lines-ended}
use Rattle.sut_records.proofs.PlainText.{printed-file}
use Rattle.sut_classes.specs.ClassLists.{ClassLists}
use Rattle.sut_classes.specs.Kept.{IsClasses}
use Rattle.sut_measures.specs.Fits.{account_fits}
use Rattle.sut_measures.specs.Keys.{account_key}
use Rattle.sut_measures.specs.Names.{account_fields}
use Rattle.sut_measures.specs.declared.accounts.Account.{Account}
use Rattle.sut_measures.specs.declared.faults.NameFault.{NameFault}
use Rattle.sut_measures.proofs.RoundTrip.{account_of-name}
use Rattle.sut_tables.specs.ProblemFacts.{ProblemFacts}
use Rattle.sut_tables.specs.Problems.{IsProblem, live_accounts}
use Rattle.sut_tables.proofs.LiveFits.{live-accounts-fit}
use Rattle.sut_tables.proofs.Ordered.{same-refl}
use Rattle.sut_cert.specs.Certificates.{IsAccountSet, IsPotential, IsPotentials, has_account}
use Rattle.sut_cert.specs.CertificateFile.{account_read, all_given, at_line, certificate_of, cut_header, cut_in, cut_line, is_above, is_next, last_of, potential_line, potential_of, potentials_header, potentials_in}
use Rattle.sut_cert.specs.CertificateText.{cut_text, potential_fields, potentials_text}
use Rattle.sut_cert.specs.declared.certificates.Certificate.TheVariants as certificate
use Rattle.sut_cert.specs.declared.faults.CertCause.TheVariants as fault
use Rattle.sut_cert.proofs.AccountSearch.{account-among}
use Rattle.sut_cert.proofs.Ascents.{above-seam}
use Rattle.sut_cert.proofs.ClassFacts.{distinct-codes, groups-there}
use Rattle.sut_cert.proofs.FileLemmas.{under-cut, under-potentials}
use Rattle.sut_cert.proofs.LineLemmas.{cut-good, potential-good}
use Rattle.sut_cert.proofs.Ranges.{tested-potential}
use Rattle.sut_cert.proofs.PlainLines.{accounts-plain, cut_header-plain, potential-small, potentials-plain, potentials_header-plain}

-- ---- one line

name-back : (cs : ClassLists) → IsClasses cs → (a : Account) → account_fits cs a ≡ true → account_read cs (account_fields cs a) ≡ Ok a
name-back cs kept a fit = ap (λ (r : Result Account NameFault). fault_as fault.BadName r) (account_of-name cs (distinct-codes cs kept) a fit)

number-back : (z : ℤ) → IsPotential z → potential_of (whole_of (whole_text z)) ≡ Ok z
number-back z r = ap potential_of (whole-spelled z (potential-small z r)) ∙ ap (λ b. if b then Ok z else Err fault.OutOfRange) (tested-potential z r)

next-back : (next : Option Account) (a : Account) → next ≡ Some a → is_next next a ≡ true
next-back next a e = ap (λ o. is_next o a) e ∙ same-refl (account_key a)

potential-back : (cs : ClassLists) → IsClasses cs → (live : List Account) (n : ℕ) (given : List (Account × ℤ)) (p : Account × ℤ)
    → slice_get live (length given) ≡ Some p.0 → account_fits cs p.0 ≡ true → IsPotential p.1
    → potential_line cs live n given (potential_fields cs p) ≡ Ok (given ++ p ∷ [])
unfolding potential_line
potential-back cs kept live n given p at fit range =
    ap (λ r. at_line n (and_then r (λ pair. Ok (given ++ pair ∷ []))))
    (sym (potential-good cs (slice_get live (length given)) (potential_fields cs p) p.0 p.1 refl (name-back cs kept p.0 fit) (next-back (slice_get live (length given)) p.0 at) (number-back p.1 range)))

account-back : (cs : ClassLists) → IsClasses cs → (live : List Account) (n : ℕ) (set : List Account) (a : Account)
    → has_account live a ≡ true → is_above (last_of set) a ≡ true → account_fits cs a ≡ true
    → cut_line cs live n set (account_fields cs a) ≡ Ok (set ++ a ∷ [])
unfolding cut_line
account-back cs kept live n set a alive above fit =
    ap (λ r. at_line n (and_then r (λ b. Ok (set ++ b ∷ []))))
    (sym (cut-good cs live (last_of set) (account_fields cs a) a refl (name-back cs kept a fit) alive above))

-- ---- all lines

seam : {X Y : Type 0} (f : X → Y) (xs : List X) (x : X) (ys : List X) → slice_get (map f (xs ++ x ∷ ys)) (length xs) ≡ Some (f x)
seam f [] x ys = refl
seam f (z ∷ xs) x ys = seam f xs x ys

potentials-back : (cs : ClassLists) → IsClasses cs → (live : List Account) (n : ℕ) (given left : List (Account × ℤ))
    → map (λ (a : Account × ℤ). a.0) (given ++ left) ≡ live
    → All (λ (a : Account × ℤ). account_fits cs a.0 ≡ true) left → All (λ (a : Account × ℤ). IsPotential a.1) left
    → read_lines (potential_line cs live) n given (map (potential_fields cs) left) ≡ Ok (given ++ left)
potentials-back cs kept live n given [] parts fit range =
    lines-ended (potential_line cs live) n given [] refl ∙ ap Ok (sym (append-nil given))
potentials-back cs kept live n given (p ∷ left) parts fit range =
    let at : slice_get live (length given) ≡ Some p.0 = ap (λ l. slice_get l (length given)) (sym parts) ∙ seam (λ (a : Account × ℤ). a.0) given p left in
    let whole : (given ++ p ∷ []) ++ left ≡ given ++ p ∷ left = append_assoc given (p ∷ []) left in
    line-judged (potential_line cs live) n given (potential_fields cs p ∷ map (potential_fields cs) left) (potential_fields cs p) (map (potential_fields cs) left) (Ok (given ++ p ∷ [])) refl
    (potential-back cs kept live n given p at (All-head (λ (a : Account × ℤ). account_fits cs a.0 ≡ true) p left fit) (All-head (λ (a : Account × ℤ). IsPotential a.1) p left range))
    ∙ potentials-back cs kept live (n + 1) (given ++ p ∷ []) left (ap (map (λ (a : Account × ℤ). a.0)) whole ∙ parts)
    (All-tail (λ (a : Account × ℤ). account_fits cs a.0 ≡ true) p left fit) (All-tail (λ (a : Account × ℤ). IsPotential a.1) p left range)
    ∙ ap Ok whole

accounts-back : (cs : ClassLists) → IsClasses cs → (live : List Account) → All (λ a. account_fits cs a ≡ true) live → (n : ℕ) (set left : List Account)
    → IsAccountSet (set ++ left) → All (λ a. IsTrue (has_account live a)) left
    → read_lines (cut_line cs live) n set (map (account_fields cs) left) ≡ Ok (set ++ left)
accounts-back cs kept live fit n set [] asc alive =
    lines-ended (cut_line cs live) n set [] refl ∙ ap Ok (sym (append-nil set))
accounts-back cs kept live fit n set (a ∷ left) asc alive =
    let whole : (set ++ a ∷ []) ++ left ≡ set ++ a ∷ left = append_assoc set (a ∷ []) left in
    let here : has_account live a ≡ true = All-head (λ a. IsTrue (has_account live a)) a left alive in
    line-judged (cut_line cs live) n set (account_fields cs a ∷ map (account_fields cs) left) (account_fields cs a) (map (account_fields cs) left) (Ok (set ++ a ∷ [])) refl
    (account-back cs kept live n set a here (above-seam set a left asc) (account-among (λ a. account_fits cs a ≡ true) live a fit here))
    ∙ accounts-back cs kept live fit (n + 1) (set ++ a ∷ []) left (subst IsAccountSet (sym whole) asc) (All-tail (λ a. IsTrue (has_account live a)) a left alive)
    ∙ ap Ok whole

-- ---- the file

fits-of : (cs : ClassLists) (ps : List (Account × ℤ)) → All (λ a. account_fits cs a ≡ true) (map (λ (a : Account × ℤ). a.0) ps) → All (λ (a : Account × ℤ). account_fits cs a.0 ≡ true) ps
fits-of cs [] all = All-nil (λ (a : Account × ℤ). account_fits cs a.0 ≡ true)
fits-of cs (p ∷ ps) all =
    All-cons (λ (a : Account × ℤ). account_fits cs a.0 ≡ true) p ps (All-head (λ a. account_fits cs a ≡ true) p.0 (map (λ (a : Account × ℤ). a.0) ps) all)
    (fits-of cs ps (All-tail (λ a. account_fits cs a ≡ true) p.0 (map (λ (a : Account × ℤ). a.0) ps) all))

no-mark : (lines : List Fields) → strip_bom (file_text potentials_header lines) ≡ file_text potentials_header lines
unfolding strip_bom
no-mark lines = refl

no-mark-cut : (lines : List Fields) → strip_bom (file_text cut_header lines) ≡ file_text cut_header lines
unfolding strip_bom
no-mark-cut lines = refl

as-many : (live : List Account) (ps : List (Account × ℤ)) → map (λ (a : Account × ℤ). a.0) ps ≡ live → nat_le (length live) (length ps) ≡ true
as-many live ps e = le-leb (length live) (length ps) (omega (arith, ap length e, length-map ps (λ (a : Account × ℤ). a.0)))

read-whole : (cs : ClassLists) (live : List Account) (ps : List (Account × ℤ)) → map (λ (a : Account × ℤ). a.0) ps ≡ live
    → read_lines (potential_line cs live) 2 [] (map (potential_fields cs) ps) ≡ Ok ps
    → potentials_in cs live (map (potential_fields cs) ps) ≡ Ok ps
unfolding potentials_in
read-whole cs live ps names e =
    ap (λ r. and_then r (all_given live (length (map (potential_fields cs) ps) + 2))) e
    ∙ ap (λ b. only_if b (record { line = length (map (potential_fields cs) ps) + 2; cause = fault.Short }) (Ok ps)) (as-many live ps names)

-- Potentials of the live accounts.
pub potentials-read-back : (p : ProblemFacts) → IsProblem p → IsClasses p.classes → (ps : List (Account × ℤ)) → IsPotentials ps
    → map (λ (a : Account × ℤ). a.0) ps ≡ live_accounts p → certificate_of p (potentials_text p.classes ps) ≡ Ok (certificate.Potentials ps)
unfolding potentials_text
potentials-read-back p ok kept ps good names =
    let lines = map (potential_fields p.classes) ps in
    let rows = printed-file potentials_header lines potentials_header-plain (potentials-plain p.classes kept ps good.in_range) (no-mark lines) in
    let fit = fits-of p.classes ps (subst (All (λ a. account_fits p.classes a ≡ true)) (sym names) (live-accounts-fit p ok (groups-there p.classes kept))) in
    sym (under-potentials p.classes (live_accounts p) (records_of (file_text potentials_header lines)) potentials_header lines rows refl)
    ∙ ap (λ r. and_then r (λ given. Ok (certificate.Potentials given)))
    (read-whole p.classes (live_accounts p) ps names (potentials-back p.classes kept (live_accounts p) 2 [] ps names fit good.in_range))

-- A set of live accounts.
pub cut-read-back : (p : ProblemFacts) → IsProblem p → IsClasses p.classes → (set : List Account) → IsAccountSet set
    → All (λ a. IsTrue (has_account (live_accounts p) a)) set → certificate_of p (cut_text p.classes set) ≡ Ok (certificate.Cut set)
unfolding cut_text cut_in
cut-read-back p ok kept set asc alive =
    let lines = map (account_fields p.classes) set in
    let rows = printed-file cut_header lines cut_header-plain (accounts-plain p.classes kept set) (no-mark-cut lines) in
    sym (under-cut p.classes (live_accounts p) (records_of (file_text cut_header lines)) cut_header lines rows refl refl)
    ∙ ap (λ r. and_then r (λ s. Ok (certificate.Cut s)))
    (accounts-back p.classes kept (live_accounts p) (live-accounts-fit p ok (groups-there p.classes kept)) 2 [] set asc alive)
