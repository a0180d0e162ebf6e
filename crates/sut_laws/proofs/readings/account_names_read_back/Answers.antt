use Rattle.sut_measures.proofs.RoundTrip.{account_fits-account_of, account_of-name, name-account_of}
use Rattle.sut_readback.proofs.ClassLemmas.{distinct-codes}
use Rattle.sut_laws.proofs.readings.account_names_read_back.Goals as goal

pub returns : goal.returns
returns c = (
  λ cs kept x fit. account_of-name cs (distinct-codes cs kept) x fit,
  λ cs word a b x e. (account_fits-account_of cs word a b x e, name-account_of cs word a b x e),
)
