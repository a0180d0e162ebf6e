use Rattle.std.proofs.Common.{◌∙◌, ap}
use Rattle.std.specs.Ordering.{is_eq}
use Rattle.sut_measures.specs.Keys.{account_key}
use Rattle.sut_tables.proofs.TallyKeys.{eq-same}
use Rattle.sut_cert.proofs.certificates.is_same.Goals as goal

pub returns : goal.returns
returns c = c.is_eq.ensures ∙ ap is_eq c.account_order.ensures ∙ eq-same (account_key c.args.a) (account_key c.args.b)
