use Rattle.sut_measures.proofs.RoundTrip.{fits-measure_of, measure_of-name, name-measure_of}
use Rattle.sut_readback.proofs.ClassLemmas.{distinct-codes}
use Rattle.sut_laws.proofs.readings.measure_names_read_back.Goals as goal

pub returns : goal.returns
returns c = (
  λ cs kept m fit. measure_of-name cs (distinct-codes cs kept) m fit,
  λ cs kind a b d m e. (fits-measure_of cs kind a b d m e, name-measure_of cs kind a b d m e),
)
