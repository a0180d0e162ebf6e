use Rattle.std.proofs.Common.{sym, take}
use Rattle.sut_classes.specs.Groups.{groups_of}
use Rattle.sut_tables.proofs.LiveCounts.{count-less, take-more, take-past-more}
use Rattle.sut_tables.proofs.live_tallies.LiveTallies.lower_first.Goals as goal
use Rattle.sut_tables.proofs.live_tallies.LiveTallies.lower_first.Goals.{in-Some, in_default}

pub loop-k-preserved : goal.loop-k-preserved
loop-k-preserved c =
    elim c.match-get.branch [
      | in-Some w ↦
          rw (w.self-is, take-more c.args.made.now c.loop-k.k w.in-Some.m (sym w.in-Some.ensures))
          (count-less (groups_of c.args.classes.now) c.args.self.now c.loop-k.self w.lower_one.new.self (take c.loop-k.k c.args.made.now) _ c.loop-k.invariant w.lower_one.ensures)
      | in_default w ↦ rw (w.self-is, take-past-more c.args.made.now c.loop-k.k (sym w.in_default.ensures)) c.loop-k.invariant
    ]
