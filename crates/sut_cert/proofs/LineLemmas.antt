-- The steps of a line, one after the other.
use Rattle.std.proofs.Common.{◌≡◌, ◌==◌, ◌∷◌, ◌++◌, ◌∙◌, ℕ, ℤ, List, [], true, false, Option, Ok, Err, refl, sym, ap, length}
use Rattle.std.specs.Prelude.{slice_get}
use Rattle.sut_records.specs.FirstFault.{and_then}
use Rattle.sut_records.specs.RecordList.{Fields, field}
use Rattle.sut_text.specs.Number.{whole_of}
use Rattle.sut_classes.specs.ClassLists.{ClassLists}
use Rattle.sut_measures.specs.declared.accounts.Account.{Account}
use Rattle.sut_cert.specs.Certificates.{has_account}
use Rattle.sut_cert.specs.CertificateFile.{account_read, at_line, cut_line, cut_read, is_above, is_next, last_of, potential_line, potential_of, potential_read}
use Rattle.sut_cert.specs.declared.faults.CertCause.{CertCause}
use Rattle.sut_cert.specs.declared.faults.CertCause.TheVariants as fault

-- ---- potentials

pub potential-csv : (cs : ClassLists) (next : Option Account) (line : Fields)
    → (length line == 4) ≡ false
    → Err fault.Csv ≡ potential_read cs next line
unfolding potential_read
potential-csv cs next line e = rw e refl

pub potential-name : (cs : ClassLists) (next : Option Account) (line : Fields) (cause : CertCause)
    → (length line == 4) ≡ true
    → account_read cs line ≡ Err cause
    → Err cause ≡ potential_read cs next line
unfolding potential_read
potential-name cs next line cause e f = rw (e, f) refl

pub potential-account : (cs : ClassLists) (next : Option Account) (line : Fields) (a : Account)
    → (length line == 4) ≡ true
    → account_read cs line ≡ Ok a
    → is_next next a ≡ false
    → Err fault.WrongAccount ≡ potential_read cs next line
unfolding potential_read
potential-account cs next line a e f g = rw (e, f, g) refl

pub potential-number : (cs : ClassLists) (next : Option Account) (line : Fields) (a : Account) (cause : CertCause)
    → (length line == 4) ≡ true
    → account_read cs line ≡ Ok a
    → is_next next a ≡ true
    → potential_of (whole_of (field line 3)) ≡ Err cause
    → Err cause ≡ potential_read cs next line
unfolding potential_read
potential-number cs next line a cause e f g h = rw (e, f, g, h) refl

pub potential-good : (cs : ClassLists) (next : Option Account) (line : Fields) (a : Account) (z : ℤ)
    → (length line == 4) ≡ true
    → account_read cs line ≡ Ok a
    → is_next next a ≡ true
    → potential_of (whole_of (field line 3)) ≡ Ok z
    → Ok (a, z) ≡ potential_read cs next line
unfolding potential_read
potential-good cs next line a z e f g h = rw (e, f, g, h) refl

-- ---- cuts

pub cut-csv : (cs : ClassLists) (live : List Account) (last : Option Account) (line : Fields)
    → (length line == 3) ≡ false
    → Err fault.Csv ≡ cut_read cs live last line
unfolding cut_read
cut-csv cs live last line e = rw e refl

pub cut-name : (cs : ClassLists) (live : List Account) (last : Option Account) (line : Fields) (cause : CertCause)
    → (length line == 3) ≡ true
    → account_read cs line ≡ Err cause
    → Err cause ≡ cut_read cs live last line
unfolding cut_read
cut-name cs live last line cause e f = rw (e, f) refl

pub cut-dead : (cs : ClassLists) (live : List Account) (last : Option Account) (line : Fields) (a : Account)
    → (length line == 3) ≡ true
    → account_read cs line ≡ Ok a
    → has_account live a ≡ false
    → Err fault.WrongAccount ≡ cut_read cs live last line
unfolding cut_read
cut-dead cs live last line a e f g = rw (e, f, g) refl

pub cut-below : (cs : ClassLists) (live : List Account) (last : Option Account) (line : Fields) (a : Account)
    → (length line == 3) ≡ true
    → account_read cs line ≡ Ok a
    → has_account live a ≡ true
    → is_above last a ≡ false
    → Err fault.WrongAccount ≡ cut_read cs live last line
unfolding cut_read
cut-below cs live last line a e f g h = rw (e, f, g, h) refl

pub cut-good : (cs : ClassLists) (live : List Account) (last : Option Account) (line : Fields) (a : Account)
    → (length line == 3) ≡ true
    → account_read cs line ≡ Ok a
    → has_account live a ≡ true
    → is_above last a ≡ true
    → Ok a ≡ cut_read cs live last line
unfolding cut_read
cut-good cs live last line a e f g h = rw (e, f, g, h) refl

-- ---- a whole line

pub potential-refused : (cs : ClassLists) (live : List Account) (n : ℕ) (given : List (Account × ℤ)) (line : Fields) (next : Option Account) (cause : CertCause)
    → next ≡ slice_get live (length given) → Err cause ≡ potential_read cs next line
    → potential_line cs live n given line ≡ Err (record { line = n; cause = cause })
unfolding potential_line
potential-refused cs live n given line next cause e f =
    ap (λ o. at_line n (and_then (potential_read cs o line) (λ pair. Ok (given ++ pair ∷ [])))) (sym e)
    ∙ ap (λ r. at_line n (and_then r (λ pair. Ok (given ++ pair ∷ [])))) (sym f)

pub potential-taken : (cs : ClassLists) (live : List Account) (n : ℕ) (given after : List (Account × ℤ)) (line : Fields) (next : Option Account) (pair : Account × ℤ)
    → next ≡ slice_get live (length given) → Ok pair ≡ potential_read cs next line → after ≡ given ++ pair ∷ []
    → potential_line cs live n given line ≡ Ok after
unfolding potential_line
potential-taken cs live n given after line next pair e f g =
    ap (λ o. at_line n (and_then (potential_read cs o line) (λ pair. Ok (given ++ pair ∷ [])))) (sym e)
    ∙ ap (λ r. at_line n (and_then r (λ pair. Ok (given ++ pair ∷ [])))) (sym f)
    ∙ ap Ok (sym g)

pub account-refused : (cs : ClassLists) (live : List Account) (n : ℕ) (set : List Account) (line : Fields) (last : Option Account) (cause : CertCause)
    → last ≡ last_of set → Err cause ≡ cut_read cs live last line
    → cut_line cs live n set line ≡ Err (record { line = n; cause = cause })
unfolding cut_line
account-refused cs live n set line last cause e f =
    ap (λ o. at_line n (and_then (cut_read cs live o line) (λ account. Ok (set ++ account ∷ [])))) (sym e)
    ∙ ap (λ r. at_line n (and_then r (λ account. Ok (set ++ account ∷ [])))) (sym f)

pub account-taken : (cs : ClassLists) (live : List Account) (n : ℕ) (set after : List Account) (line : Fields) (last : Option Account) (a : Account)
    → last ≡ last_of set → Ok a ≡ cut_read cs live last line → after ≡ set ++ a ∷ []
    → cut_line cs live n set line ≡ Ok after
unfolding cut_line
account-taken cs live n set after line last a e f g =
    ap (λ o. at_line n (and_then (cut_read cs live o line) (λ account. Ok (set ++ account ∷ [])))) (sym e)
    ∙ ap (λ r. at_line n (and_then r (λ account. Ok (set ++ account ∷ [])))) (sym f)
    ∙ ap Ok (sym g)
