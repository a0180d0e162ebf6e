use Rattle.std.proofs.Common.{sym}
use Rattle.sut_classes.proofs.ViewLemmas.{product-codes}
use Rattle.sut_classes.proofs.lists.ProductList.codes.Goals as goal

pub returns : goal.returns
returns c = rw (← c.self.view_is) (sym (product-codes c.self.inside.names c.self.inside.facts.items c.self.invariant))
