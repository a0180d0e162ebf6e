use Rattle.std.proofs.Common.{length, take, ◌-◌}
use Rattle.sut_classes.specs.Groups.{groups_of}
use Rattle.sut_tables.specs.LiveTallies.{CountsMore}
use Rattle.sut_tables.proofs.live_tallies.LiveTallies.raise.Given as goal

abbrev pub invariant-loop-n : goal.invariant-loop-n
invariant-loop-n l = CountsMore (groups_of l.classes) l.initial.self l.self (take l.k l.made)

abbrev pub decreases-loop-n : goal.decreases-loop-n
decreases-loop-n l = length l.made - l.k
