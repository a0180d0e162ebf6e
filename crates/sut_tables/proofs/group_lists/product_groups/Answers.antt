use Rattle.std.proofs.Common.{◌<◌, ◌∙◌, ◌++◌, ◌∷◌, [], ap, subst, sym, length, map}
use Rattle.std.proofs.lemmas.List.{length-map}
use Rattle.sut_classes.specs.ClassLists.{ProductClass}
use Rattle.sut_classes.specs.Groups.{groups_of}
use Rattle.sut_classes.specs.declared.ids.ProductGroupId.{ProductGroupId}
use Rattle.sut_tables.proofs.ZeroTables.{group-more}
use Rattle.sut_tables.proofs.group_lists.product_groups.Goals as goal

pub loop-place-preserved : goal.loop-place-preserved
loop-place-preserved c =
    let products = c.args.classes.now.products in
    let groups = (groups_of c.args.classes.now).of_product in
    let there = subst (λ n. c.loop-place.place < n) (c.count-place-end.ensures.count ∙ length-map products (λ (i : ProductClass). i.code) ∙ sym (length-map products (λ (i : ProductClass). i.group))) c.loop-place-test.true in
    c.in_ok-push.ensures.items ∙ group-more ProductGroupId groups c.loop-place.groups.items c.loop-place.place c.group_of.result there c.loop-place.invariant c.group_of.ensures
