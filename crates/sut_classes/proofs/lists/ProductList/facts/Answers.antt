use Rattle.sut_classes.proofs.ViewLemmas.{product-facts}
use Rattle.sut_classes.proofs.lists.ProductList.facts.Goals as goal

pub returns : goal.returns
returns c = rw (← c.self.view_is, product-facts c.self.inside.names c.self.inside.facts.items c.args.place c.self.invariant, ← c.deref.ensures.value) c.item_at.ensures
