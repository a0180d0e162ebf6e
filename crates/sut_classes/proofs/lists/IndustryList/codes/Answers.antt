use Rattle.std.proofs.Common.{sym}
use Rattle.sut_classes.proofs.ViewLemmas.{industry-codes}
use Rattle.sut_classes.proofs.lists.IndustryList.codes.Goals as goal

pub returns : goal.returns
returns c = rw (← c.self.view_is) (sym (industry-codes c.self.inside.names c.self.inside.groups.items c.self.invariant))
