-- What is wrong with a certificate, in words: the variant's name in lower case with dashes, and then what it carries.
use Rattle.std.specs.Prelude.{ℕ, List, [], ◌∷◌, ◌++◌, codes}
use Rattle.sut_text.specs.Text.{spaced}
use Rattle.sut_outside.specs.declared.names.FileName.TheVariants.{CertificateCsv}
use Rattle.sut_cert.specs.declared.faults.CertCause.{CertCause}
use Rattle.sut_cert.specs.declared.faults.CertCause.TheVariants as cert
use Rattle.sut_cert.specs.declared.faults.CertFault.{CertFault}
use Rattle.sut_status.specs.FaultWords.{name_words}
use Rattle.sut_status.specs.StatusLines.{on_line}

-- a fault of a certificate; the fault of a name follows
abbrev pub certificate_words : CertCause → List (List ℕ)
certificate_words cert.Csv = codes "csv" ∷ []
certificate_words cert.Header = codes "header" ∷ []
certificate_words (cert.BadName e) = codes "bad-name" ∷ name_words e
certificate_words cert.WrongAccount = codes "wrong-account" ∷ []
certificate_words cert.NotNumber = codes "not-number" ∷ []
certificate_words cert.OutOfRange = codes "out-of-range" ∷ []
certificate_words cert.Short = codes "short" ∷ []
certificate_words cert.NoMemory = codes "no-memory" ∷ []

-- the same with the file and the line
abbrev pub certificate_text : CertFault → List ℕ
certificate_text fault = on_line CertificateCsv fault.line ++ spaced (certificate_words fault.cause)
