use Rattle.std.proofs.Common.{◌∙◌, ℤ, Some, sym, ap, subst}
use Rattle.sut_measures.specs.declared.accounts.Account.{Account}
use Rattle.sut_cert.specs.Certificates.{IsPotential, potential_at}
use Rattle.sut_cert.proofs.AccountSearch.{potential-there}
use Rattle.sut_cert.proofs.Ranges.{fits-wide}
use Rattle.sut_cert.proofs.certificates.Potentials.get.Goals as goal

pub returns-in-Some-clause-value : goal.returns-in-Some-clause-value
returns-in-Some-clause-value c =
    let held = rw c.deref.ensures.value at c.in-Some.ensures.held in
    let found : Account × ℤ = c.index.result.now in
    let number = potential-there c.self.inside.pairs.items c.self.invariant.in_order c.args.a c.in-Some.place found held.0 (sym c.index.ensures) (ap (λ (p : Account × ℤ). p.0) c.index.ensures ∙ held.1 found) in
    let range : IsPotential found.1 = subst (λ (p : Account × ℤ). IsPotential p.1) (sym c.index.ensures) (c.self.invariant.in_range c.in-Some.place found held.0) in
    ap Some (fits-wide found.1 range) ∙ sym number ∙ ap (λ ps. potential_at ps c.args.a) c.self.view_is

pub returns-in-Some-clause-range : goal.returns-in-Some-clause-range
returns-in-Some-clause-range c =
    let held = rw c.deref.ensures.value at c.in-Some.ensures.held in
    let found : Account × ℤ = c.index.result.now in
    let range : IsPotential found.1 = subst (λ (p : Account × ℤ). IsPotential p.1) (sym c.index.ensures) (c.self.invariant.in_range c.in-Some.place found held.0) in
    subst IsPotential (sym (fits-wide found.1 range)) range
