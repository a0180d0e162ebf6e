-- The text of `certificate.csv`: the potential of each account, or the accounts of a set.
use Rattle.std.specs.Prelude.{◌≡◌, ℕ, ℤ, IsTrue, All, List, [], ◌∷◌, ◌++◌, map}
use Rattle.sut_text.specs.Text.{whole_text, file_text}
use Rattle.sut_records.specs.RecordList.{Fields}
use Rattle.sut_classes.specs.ClassLists.{ClassLists}
use Rattle.sut_measures.specs.Names.{account_fields}
use Rattle.sut_measures.specs.declared.accounts.Account.{Account}
use Rattle.sut_tables.specs.ProblemFacts.{ProblemFacts}
use Rattle.sut_tables.specs.Problems.{live_accounts}
use Rattle.sut_cert.specs.Certificates.{has_account}
use Rattle.sut_cert.specs.CertificateFile.{cut_header, potentials_header}
use Rattle.sut_cert.specs.declared.certificates.Certificate.{Certificate}
use Rattle.sut_cert.specs.declared.certificates.Certificate.TheVariants as certificate

-- the line of an account's potential
abbrev pub potential_fields : ClassLists → Account × ℤ → Fields
potential_fields cs c = account_fields cs c.0 ++ whole_text c.1 ∷ []

unfoldable pub potentials_text : ClassLists → List (Account × ℤ) → List ℕ
potentials_text cs ps = file_text potentials_header (map (potential_fields cs) ps)

unfoldable pub cut_text : ClassLists → List Account → List ℕ
cut_text cs set = file_text cut_header (map (account_fields cs) set)

abbrev pub certificate_text : ClassLists → Certificate → List ℕ
certificate_text cs (certificate.Potentials ps) = potentials_text cs ps
certificate_text cs (certificate.Cut set) = cut_text cs set

-- the records of a certificate: the header, and the line of each account
abbrev pub certificate_records : ClassLists → Certificate → List Fields
certificate_records cs (certificate.Potentials ps) = potentials_header ∷ map (potential_fields cs) ps
certificate_records cs (certificate.Cut set) = cut_header ∷ map (account_fields cs) set

-- the accounts of the potentials are these live accounts, or the accounts of the set are among them
abbrev pub NamesLive : List Account → Certificate → Type 0
NamesLive live (certificate.Potentials ps) = map (λ (a : Account × ℤ). a.0) ps ≡ live
NamesLive live (certificate.Cut set) = All (λ a. IsTrue (has_account live a)) set

abbrev pub NamesLiveAccounts : ProblemFacts → Certificate → Type 0
NamesLiveAccounts p c = NamesLive (live_accounts p) c
