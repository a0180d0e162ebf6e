use Rattle.std.proofs.Common.{ℤ, rules}
use Rattle.std.proofs.lemmas.List.Sorted.{answers_always}
use Rattle.sut_measures.specs.declared.accounts.Account.{Account}
use Rattle.sut_cert.proofs.AccountSearch.{potential-absent, searched}
use Rattle.sut_cert.proofs.certificates.place_of.Goals as goal

pub returns-in-Ok-clause-held : goal.returns-in-Ok-clause-held
returns-in-Ok-clause-held c =
    let facts = c.binary_search_by_key.ensures in
    let by_key = facts.position (λ (p : Account × ℤ). p.0) (answers_always _ _ _ (λ f a r g called. search rules)) in
    let found = searched (λ (p : Account × ℤ). p.0) c.args.pairs.now c.requires c.args.a c.binary_search_by_key.result facts.bound by_key in
    rw c.in-Ok.is at found

pub returns-in-Err-clause-absent : goal.returns-in-Err-clause-absent
returns-in-Err-clause-absent c =
    let facts = c.binary_search_by_key.ensures in
    let by_key = facts.position (λ (p : Account × ℤ). p.0) (answers_always _ _ _ (λ f a r g called. search rules)) in
    let found = searched (λ (p : Account × ℤ). p.0) c.args.pairs.now c.requires c.args.a c.binary_search_by_key.result facts.bound by_key in
    potential-absent c.args.pairs.now c.args.a (rw c.in-Err.is at found)
