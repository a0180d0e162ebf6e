use Rattle.std.proofs.Common.{◌∙◌}
use Rattle.sut_cert.proofs.AccountSearch.{account-searched}
use Rattle.sut_cert.proofs.certificates.is_among.Goals as goal

pub returns : goal.returns
returns c =
    let facts = c.binary_search.ensures in
    c.is_ok.ensures.value ∙ account-searched c.args.accounts.now c.requires c.args.a c.binary_search.result facts.bound facts.position
