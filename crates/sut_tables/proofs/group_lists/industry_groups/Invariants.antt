use Rattle.std.proofs.Common.{◌≡◌, take}
use Rattle.sut_classes.specs.Groups.{groups_of}
use Rattle.sut_tables.proofs.group_lists.industry_groups.Given as goal

-- the first industries' groups
abbrev pub invariant-loop-place : goal.invariant-loop-place
invariant-loop-place l = l.groups.items ≡ take l.place (groups_of l.classes).of_industry
