use Rattle.std.proofs.Common.{rules}
use Rattle.std.proofs.lemmas.List.Sorted.{answers_always}
use Rattle.sut_measures.specs.Keys.{account_key}
use Rattle.sut_tables.specs.InOrder.{key_before}
use Rattle.sut_cert.proofs.Ascents.{ascending-tested}
use Rattle.sut_cert.proofs.certificates.accounts_ascend.Goals as goal

pub returns : goal.returns
returns c =
    ascending-tested account_key c.args.accounts.now c.is_sorted_by.result
    (c.is_sorted_by.ensures.cases (λ x y. key_before (account_key x) (account_key y)) (answers_always _ _ _ (λ f a r g called. search rules)))
