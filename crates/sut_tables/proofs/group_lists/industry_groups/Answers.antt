use Rattle.std.proofs.Common.{◌<◌, ◌∙◌, ◌++◌, ◌∷◌, [], ap, subst, sym, length, map}
use Rattle.std.proofs.lemmas.List.{length-map}
use Rattle.sut_classes.specs.ClassLists.{IndustryClass}
use Rattle.sut_classes.specs.Groups.{groups_of}
use Rattle.sut_classes.specs.declared.ids.IndustryGroupId.{IndustryGroupId}
use Rattle.sut_tables.proofs.ZeroTables.{group-more}
use Rattle.sut_tables.proofs.group_lists.industry_groups.Goals as goal

pub loop-place-preserved : goal.loop-place-preserved
loop-place-preserved c =
    let industries = c.args.classes.now.industries in
    let groups = (groups_of c.args.classes.now).of_industry in
    let there = subst (λ n. c.loop-place.place < n) (c.count-place-end.ensures.count ∙ length-map industries (λ (j : IndustryClass). j.code) ∙ sym (length-map industries (λ (j : IndustryClass). j.group))) c.loop-place-test.true in
    c.in_ok-push.ensures.items ∙ group-more IndustryGroupId groups c.loop-place.groups.items c.loop-place.place c.group_of_industry.result there c.loop-place.invariant c.group_of_industry.ensures
