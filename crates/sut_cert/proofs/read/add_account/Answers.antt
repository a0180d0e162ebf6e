use Rattle.std.proofs.Common.{◌≡◌}
use Rattle.csv.specs.Records.{fields_of}
use Rattle.sut_cert.specs.CertificateFile.{last_of}
use Rattle.sut_cert.proofs.LineLemmas.{account-refused, account-taken}
use Rattle.sut_cert.proofs.read.add_account.Goals as goal

pub returns-in-Err : goal.returns-in-Err
returns-in-Err c lack =
    let last : c.last_of-last.result ≡ last_of c.args.set.now.items = rw c.deref.ensures.value at c.last_of-last.ensures in
    account-refused c.args.classes.now c.args.live.now c.args.line c.args.set.now.items (fields_of c.args.row.now) c.last_of-last.result c.in-Err.cause last c.in-Err.ensures

pub returns-in-Ok-push : goal.returns-in-Ok-push
returns-in-Ok-push c lack =
    let last : c.last_of-last.result ≡ last_of c.args.set.now.items = rw c.deref.ensures.value at c.last_of-last.ensures in
    account-taken c.args.classes.now c.args.live.now c.args.line c.args.set.now.items c.push.new.self.items (fields_of c.args.row.now) c.last_of-last.result c.in-Ok.account last c.in-Ok.ensures c.in-Ok-push.ensures.items
