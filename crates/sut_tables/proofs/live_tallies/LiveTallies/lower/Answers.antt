use Rattle.std.proofs.Common.{◌∙◌, ap, subst, take}
use Rattle.sut_classes.specs.Groups.{groups_of}
use Rattle.sut_tables.specs.LiveTallies.{CountsLess}
use Rattle.sut_tables.proofs.LiveCounts.{made-few, take-all}
use Rattle.sut_tables.proofs.live_tallies.LiveTallies.lower.Goals as goal

pub returns : goal.returns
returns c =
    subst (CountsLess (groups_of c.args.classes.now) c.args.self.now c.lower_first.new.self)
    (ap (λ xs. take 9 xs) c.of-made.ensures ∙ take-all _ 9 (made-few (groups_of c.args.classes.now) c.args.m)) c.lower_first.ensures
