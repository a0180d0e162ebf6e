use Rattle.std.proofs.Common.{◌≡◌, ◌∙◌, sym, subst}
use Rattle.std.proofs.lemmas.Result.{IfOk-weaker}
use Rattle.sut_records.specs.RecordList.{records_of}
use Rattle.sut_tables.specs.Problems.{live_accounts}
use Rattle.sut_tables.proofs.Ascending.{accounts-ascending}
use Rattle.sut_cert.specs.Certificates.{IsAccountSet}
use Rattle.sut_cert.specs.CertificateText.{NamesLiveAccounts, certificate_records}
use Rattle.sut_cert.proofs.Spelled.{Spells, read-spelled}
use Rattle.sut_cert.proofs.read.read_certificate.Goals as goal

pub read_file-requires : goal.read_file-requires
read_file-requires c =
    let live : c.deref.result.now ≡ live_accounts c.args.p.now = c.deref.ensures.value ∙ c.in-Ok.ensures in
    subst IsAccountSet (sym live) (accounts-ascending c.args.p.now)

pub returns-clause-spelled : goal.returns-clause-spelled
returns-clause-spelled c =
    let p = c.args.p.now in
    let live : c.deref.result.now ≡ live_accounts p = c.deref.ensures.value ∙ c.in-Ok.ensures in
    IfOk-weaker c.read_file.result (Spells p.classes (live_accounts p) (records_of c.args.bytes.now)) (λ d. records_of c.args.bytes.now ≡ certificate_records p.classes d) (λ d s. s.records)
    (read-spelled p c.args.bytes.now c.read_file.result c.classes.result.now c.deref.result.now c.classes.ensures live c.read_file.ensures)

pub returns-clause-names : goal.returns-clause-names
returns-clause-names c =
    let p = c.args.p.now in
    let live : c.deref.result.now ≡ live_accounts p = c.deref.ensures.value ∙ c.in-Ok.ensures in
    IfOk-weaker c.read_file.result (Spells p.classes (live_accounts p) (records_of c.args.bytes.now)) (NamesLiveAccounts p) (λ d s. s.names)
    (read-spelled p c.args.bytes.now c.read_file.result c.classes.result.now c.deref.result.now c.classes.ensures live c.read_file.ensures)
