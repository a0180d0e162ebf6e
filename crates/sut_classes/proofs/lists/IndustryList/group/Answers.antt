use Rattle.sut_classes.proofs.ViewLemmas.{industry-groups}
use Rattle.sut_classes.proofs.lists.IndustryList.group.Goals as goal

pub returns : goal.returns
returns c = rw (← c.self.view_is, industry-groups c.self.inside.names c.self.inside.groups.items c.args.place c.self.invariant, ← c.deref.ensures.value) c.item_at.ensures
