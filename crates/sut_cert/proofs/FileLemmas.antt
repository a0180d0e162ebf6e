-- A file by its first record, and what is read below it by its lines.
use Rattle.std.proofs.Common.{◌≡◌, ◌+◌, ◌∷◌, ◌≤◌, ◌<◌, ℕ, ℤ, List, [], true, false, Ok, Err, refl, length, arith}
use Rattle.std.specs.Prelude.{nat_le}
use Rattle.std.proofs.lemmas.Bool.Decides.{nat_tests}
use Rattle.sut_records.specs.RecordList.{Fields, same_fields}
use Rattle.sut_records.specs.FirstFault.{and_then, read_lines}
use Rattle.sut_classes.specs.ClassLists.{ClassLists}
use Rattle.sut_measures.specs.declared.accounts.Account.{Account}
use Rattle.sut_cert.specs.CertificateFile.{certificate_in, cut_header, cut_in, cut_line, potential_line, potentials_header, potentials_in}
use Rattle.sut_cert.specs.declared.certificates.Certificate.TheVariants as certificate
use Rattle.sut_cert.specs.declared.faults.CertFault.{CertFault}
use Rattle.sut_cert.specs.declared.faults.CertCause.TheVariants as fault

pub no-record : (cs : ClassLists) (live : List Account) (all : List Fields) → all ≡ [] → Err (record { line = 1; cause = fault.Header }) ≡ certificate_in cs live all
unfolding certificate_in
no-record cs live all e = rw e refl

pub no-header : (cs : ClassLists) (live : List Account) (all : List Fields) (header : Fields) (rest : List Fields) → all ≡ header ∷ rest
    → same_fields header potentials_header ≡ false → same_fields header cut_header ≡ false
    → Err (record { line = 1; cause = fault.Header }) ≡ certificate_in cs live all
unfolding certificate_in
no-header cs live all header rest e f g = rw (e, f, g) refl

pub under-potentials : (cs : ClassLists) (live : List Account) (all : List Fields) (header : Fields) (rest : List Fields) → all ≡ header ∷ rest
    → same_fields header potentials_header ≡ true
    → and_then (potentials_in cs live rest) (λ ps. Ok (certificate.Potentials ps)) ≡ certificate_in cs live all
unfolding certificate_in
under-potentials cs live all header rest e f = rw (e, f) refl

pub under-cut : (cs : ClassLists) (live : List Account) (all : List Fields) (header : Fields) (rest : List Fields) → all ≡ header ∷ rest
    → same_fields header potentials_header ≡ false → same_fields header cut_header ≡ true
    → and_then (cut_in cs live rest) (λ set. Ok (certificate.Cut set)) ≡ certificate_in cs live all
unfolding certificate_in
under-cut cs live all header rest e f g = rw (e, f, g) refl

-- ---- potentials: the first faulty line, or accounts left without one, or all

pub potentials-fault : (cs : ClassLists) (live : List Account) (lines : List Fields) (e : CertFault) → read_lines (potential_line cs live) 2 [] lines ≡ Err e
    → Err e ≡ and_then (potentials_in cs live lines) (λ ps. Ok (certificate.Potentials ps))
unfolding potentials_in
potentials-fault cs live lines e h = rw h refl

le-false : (a b : ℕ) → b < a → nat_le a b ≡ false
le-false a b h = grind (arith, nat_tests)

le-true : (a b : ℕ) → a ≤ b → nat_le a b ≡ true
le-true a b h = grind (arith, nat_tests)

pub potentials-short : (cs : ClassLists) (live : List Account) (lines : List Fields) (given : List (Account × ℤ)) (n : ℕ) → read_lines (potential_line cs live) 2 [] lines ≡ Ok given
    → n ≡ length lines + 2 → length given < length live
    → Err (record { line = n; cause = fault.Short }) ≡ and_then (potentials_in cs live lines) (λ ps. Ok (certificate.Potentials ps))
unfolding potentials_in
potentials-short cs live lines given n h at short = rw (h, le-false (length live) (length given) short, at) refl

pub potentials-whole : (cs : ClassLists) (live : List Account) (lines : List Fields) (given ps : List (Account × ℤ)) → read_lines (potential_line cs live) 2 [] lines ≡ Ok given
    → length live ≤ length given → ps ≡ given
    → Ok (certificate.Potentials ps) ≡ and_then (potentials_in cs live lines) (λ ps. Ok (certificate.Potentials ps))
unfolding potentials_in
potentials-whole cs live lines given ps h whole same = rw (h, le-true (length live) (length given) whole, same) refl

-- ---- a cut: the first faulty line, or all accounts

pub cut-fault : (cs : ClassLists) (live : List Account) (lines : List Fields) (e : CertFault) → read_lines (cut_line cs live) 2 [] lines ≡ Err e
    → Err e ≡ and_then (cut_in cs live lines) (λ set. Ok (certificate.Cut set))
unfolding cut_in
cut-fault cs live lines e h = rw h refl

pub cut-whole : (cs : ClassLists) (live : List Account) (lines : List Fields) (set s : List Account) → read_lines (cut_line cs live) 2 [] lines ≡ Ok set → s ≡ set
    → Ok (certificate.Cut s) ≡ and_then (cut_in cs live lines) (λ set. Ok (certificate.Cut set))
unfolding cut_in
cut-whole cs live lines set s h same = rw (h, same) refl
