-- Reading a certificate: the records by the first of them, which says whether it holds potentials or a cut.
use Rattle.std.specs.Prelude.{ℕ, ◌+◌, ◌-◌, ◌==◌, nat_le, Bool, true, false, if◌then◌else◌, List, [], ◌∷◌, ◌++◌, codes, length, slice_get, ℤ, Option, None, Some, Result, Ok, Err}
use Rattle.sut_records.specs.RecordList.{Fields, field, records_of, same_fields}
use Rattle.sut_records.specs.FirstFault.{and_then, fault_as, only_if, read_lines}
use Rattle.sut_text.specs.Number.{whole_of}
use Rattle.sut_text.specs.declared.numbers.NumberFault.{NumberFault}
use Rattle.sut_text.specs.declared.numbers.NumberFault.TheVariants as number
use Rattle.sut_classes.specs.ClassLists.{ClassLists}
use Rattle.sut_measures.specs.Keys.{account_key}
use Rattle.sut_measures.specs.ReadNames.{account_of}
use Rattle.sut_measures.specs.declared.accounts.Account.{Account}
use Rattle.sut_tables.specs.InOrder.{key_before, same_key}
use Rattle.sut_tables.specs.ProblemFacts.{ProblemFacts}
use Rattle.sut_tables.specs.Problems.{live_accounts}
use Rattle.sut_cert.specs.Certificates.{has_account, is_potential}
use Rattle.sut_cert.specs.declared.certificates.Certificate.{Certificate}
use Rattle.sut_cert.specs.declared.certificates.Certificate.TheVariants as certificate
use Rattle.sut_cert.specs.declared.faults.CertCause.{CertCause}
use Rattle.sut_cert.specs.declared.faults.CertCause.TheVariants as fault
use Rattle.sut_cert.specs.declared.faults.CertFault.{CertFault}

-- why a text is no potential
abbrev pub number_cause : NumberFault → CertCause
number_cause number.TooWide = fault.OutOfRange
number_cause _ = fault.NotNumber

abbrev pub potential_of : Result ℤ NumberFault → Result ℤ CertCause
potential_of (Ok z) = if is_potential z then Ok z else Err fault.OutOfRange
potential_of (Err f) = Err (number_cause f)

-- a cause with its line
abbrev pub at_line : {A : Type 0} → ℕ → Result A CertCause → Result A CertFault
at_line n r = fault_as (λ cause. record { line = n; cause = cause }) r

-- the account that a line names
abbrev pub account_read : ClassLists → Fields → Result Account CertCause
account_read cs line = fault_as fault.BadName (account_of cs (field line 0) (field line 1) (field line 2))

-- ---- potentials: one line for each live account, in order

-- the account is the one that comes next
abbrev pub is_next : Option Account → Account → Bool
is_next None a = false
is_next (Some b) a = same_key (account_key b) (account_key a)

-- a line's account, which is the next one, with its potential
unfoldable pub potential_read : ClassLists → Option Account → Fields → Result (Account × ℤ) CertCause
potential_read cs next line =
    only_if (length line == 4) fault.Csv
    (and_then (account_read cs line) (λ account.
    only_if (is_next next account) fault.WrongAccount
    (and_then (potential_of (whole_of (field line 3))) (λ number. Ok (account, number)))))

-- line n, after the potentials that the lines before it gave to the first live accounts
unfoldable pub potential_line : ClassLists → List Account → ℕ → List (Account × ℤ) → Fields → Result (List (Account × ℤ)) CertFault
potential_line cs live n given line =
    at_line n (and_then (potential_read cs (slice_get live (length given)) line) (λ pair. Ok (given ++ pair ∷ [])))

-- after the last record no live account may be left; the line is the one after that record
abbrev pub all_given : List Account → ℕ → List (Account × ℤ) → Result (List (Account × ℤ)) CertFault
all_given live n given =
    only_if (nat_le (length live) (length given)) (record { line = n; cause = fault.Short }) (Ok given)

unfoldable pub potentials_in : ClassLists → List Account → List Fields → Result (List (Account × ℤ)) CertFault
potentials_in cs live lines = and_then (read_lines (potential_line cs live) 2 [] lines) (all_given live (length lines + 2))

-- ---- a cut: one line for each account of the set, in order

-- the account is above the one before it, if there is one
abbrev pub is_above : Option Account → Account → Bool
is_above None a = true
is_above (Some b) a = key_before (account_key b) (account_key a)

abbrev pub last_of : List Account → Option Account
last_of set = slice_get set (length set - 1)

-- a line's account, which is live and above the last one
unfoldable pub cut_read : ClassLists → List Account → Option Account → Fields → Result Account CertCause
cut_read cs live last line =
    only_if (length line == 3) fault.Csv
    (and_then (account_read cs line) (λ account.
    only_if (has_account live account) fault.WrongAccount
    (only_if (is_above last account) fault.WrongAccount (Ok account))))

-- line n, after the accounts of the lines before it
unfoldable pub cut_line : ClassLists → List Account → ℕ → List Account → Fields → Result (List Account) CertFault
cut_line cs live n set line =
    at_line n (and_then (cut_read cs live (last_of set) line) (λ account. Ok (set ++ account ∷ [])))

unfoldable pub cut_in : ClassLists → List Account → List Fields → Result (List Account) CertFault
cut_in cs live lines = read_lines (cut_line cs live) 2 [] lines

-- ---- the file

abbrev pub cut_header : Fields
cut_header = codes "account" ∷ codes "a" ∷ codes "b" ∷ []

abbrev pub potentials_header : Fields
potentials_header = codes "account" ∷ codes "a" ∷ codes "b" ∷ codes "potential" ∷ []

-- what the records of a certificate give: potentials or a set of accounts, or the first fault with its line
unfoldable pub certificate_in : ClassLists → List Account → List Fields → Result Certificate CertFault
certificate_in cs live [] = Err (record { line = 1; cause = fault.Header })
certificate_in cs live (header ∷ lines) =
    if same_fields header potentials_header then and_then (potentials_in cs live lines) (λ ps. Ok (certificate.Potentials ps))
    else only_if (same_fields header cut_header) (record { line = 1; cause = fault.Header })
    (and_then (cut_in cs live lines) (λ set. Ok (certificate.Cut set)))

abbrev pub certificate_of : ProblemFacts → List ℕ → Result Certificate CertFault
certificate_of p bytes = certificate_in p.classes (live_accounts p) (records_of bytes)
