use Rattle.std.proofs.Common.{◌≡◌, ◌∙◌, sym, refl, rules, true}
use Rattle.std.specs.Prelude.{is_ok}
use Rattle.sut_classes.proofs.CodeLemmas.{on-ok}
use Rattle.sut_classes.proofs.ViewLemmas.{product-codes, product-count, products-more}
use Rattle.sut_classes.proofs.lists.ProductList.push.Goals as goal

pub push-requires-2-clause-absent : goal.push-requires-2-clause-absent
push-requires-2-clause-absent c =
    let h = rw (← c.self.view_is) at c.requires.absent in
    rw (product-codes c.self.inside.names c.self.inside.facts.items c.self.invariant) at h

pub push-requires-2-clause-room : goal.push-requires-2-clause-room
push-requires-2-clause-room c =
    let h = rw (← c.self.view_is) at c.requires.room in
    rw (product-count c.self.inside.names c.self.inside.facts.items c.self.invariant) at h

pub returns-clause-ok : goal.returns-clause-ok
returns-clause-ok c =
    let good : is_ok c.push.result ≡ true = search rules in
    let facts = rw good at c.push.ensures.items in
    let code = on-ok c.push-2.result (sym c.is_err-2.ensures.value ∙ c.if-is_err-2.false) c.push-2.ensures.ok in
    rw (← c.self.view_is) (rw (facts, code, products-more c.self.inside.names c.self.inside.facts.items c.args.code.items c.args.facts c.self.invariant) refl)
