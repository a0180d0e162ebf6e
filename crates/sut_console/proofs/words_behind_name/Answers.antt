use Rattle.std.proofs.Common.{◌≡◌, ◌∙◌, ap, map, string_bytes, Ok, length, vec_len}
use Rattle.std.proofs.lemmas.Iterator.{YieldsList}
use Rattle.std.proofs.lemmas.Iterator.Adapters.{YieldsList-from_vec, YieldsList-from_skip, fact_from_collect}
use Rattle.std.specs.Iterator.Adapters.{skip_source}
use Rattle.std.specs.Vec.Iter.{into_iter_items, into_iter_len}
use Rattle.sut_console.proofs.words_behind_name.Goals as goal

-- what is collected is what the arguments have left behind the first
pub returns : goal.returns
returns c =
    let given : YieldsList _ (λ word. word) (skip_source c.skip.result) (into_iter_items c.args.args) =
    YieldsList-from_vec (into_iter_items c.args.args) (ap into_iter_items c.skip.ensures.source)
    (ap into_iter_len c.skip.ensures.source ∙ c.args.args.rest.ok.0) in
    ap (map string_bytes) (fact_from_collect {E = Unit {0}} (λ items words. (words.items ≡ items) × (vec_len words ≡ length items)) (Ok c.in_ok-collect.field-0) c.in_ok-collect.ensures.ran
    (YieldsList-from_skip 1 given c.skip.ensures.count)).0
