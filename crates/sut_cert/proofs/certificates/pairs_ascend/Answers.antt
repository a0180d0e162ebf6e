use Rattle.std.proofs.Common.{rules}
use Rattle.std.proofs.lemmas.List.Sorted.{answers_always}
use Rattle.sut_tables.specs.InOrder.{key_before}
use Rattle.sut_cert.specs.Certificates.{pair_key}
use Rattle.sut_cert.proofs.Ascents.{ascending-tested}
use Rattle.sut_cert.proofs.certificates.pairs_ascend.Goals as goal

pub returns : goal.returns
returns c =
    ascending-tested pair_key c.args.pairs.now c.is_sorted_by.result
    (c.is_sorted_by.ensures.cases (λ x y. key_before (pair_key x) (pair_key y)) (answers_always _ _ _ (λ f a r g called. search rules)))
