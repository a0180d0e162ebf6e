use Rattle.std.proofs.Common.{take}
use Rattle.sut_classes.specs.Groups.{groups_of}
use Rattle.sut_tables.specs.LiveTallies.{CountsLess}
use Rattle.sut_tables.proofs.live_tallies.LiveTallies.lower_first.Given as goal

abbrev pub invariant-loop-k : goal.invariant-loop-k
invariant-loop-k l = CountsLess (groups_of l.classes) l.initial.self l.self (take l.k l.made)
