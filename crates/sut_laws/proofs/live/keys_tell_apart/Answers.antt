use Rattle.sut_measures.proofs.KeyLemmas.{account_key-injective, measure_key-injective}
use Rattle.sut_laws.proofs.live.keys_tell_apart.Goals as goal

pub returns : goal.returns
returns c = (measure_key-injective, account_key-injective)
