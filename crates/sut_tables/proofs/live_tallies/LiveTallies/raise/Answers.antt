use Rattle.std.proofs.Common.{◌∙◌, sym, subst, take, arith, rules}
use Rattle.sut_classes.specs.Groups.{groups_of}
use Rattle.sut_tables.specs.LiveTallies.{CountsMore}
use Rattle.sut_tables.proofs.LiveCounts.{count-more, first-few, room-left, take-more, take-past}
use Rattle.sut_tables.proofs.live_tallies.LiveTallies.raise.Goals as goal

pub raise_one-requires : goal.raise_one-requires
raise_one-requires c =
    room-left (groups_of c.args.classes.now) c.args.self.now c.loop-n.self (take c.loop-n.k c.of-made.result) c.requires c.loop-n.invariant
    (first-few (groups_of c.args.classes.now) c.args.m c.of-made.result c.loop-n.k c.in-Some.n c.of-made.ensures (sym c.in-Some.ensures)).2

pub overflow_add-k : goal.overflow_add-k
overflow_add-k c =
    omega (arith, (first-few (groups_of c.args.classes.now) c.args.m c.of-made.result c.loop-n.k c.in-Some.n c.of-made.ensures (sym c.in-Some.ensures)).1)

pub loop-n-smaller : goal.loop-n-smaller
loop-n-smaller c =
    omega (arith, (first-few (groups_of c.args.classes.now) c.args.m c.of-made.result c.loop-n.k c.in-Some.n c.of-made.ensures (sym c.in-Some.ensures)).0)

pub loop-n-preserved : goal.loop-n-preserved
loop-n-preserved c =
    rw (take-more c.of-made.result c.loop-n.k c.in-Some.n (sym c.in-Some.ensures))
    (count-more (groups_of c.args.classes.now) c.args.self.now c.loop-n.self c.raise_one.new.self (take c.loop-n.k c.of-made.result) _ c.loop-n.invariant (search rules))

pub returns-clause-ok : goal.returns-clause-ok
returns-clause-ok c =
    subst (CountsMore (groups_of c.args.classes.now) c.args.self.now c.loop-n.self)
    (take-past c.of-made.result c.loop-n.k (sym c.in_default.ensures) ∙ c.of-made.ensures) c.loop-n.invariant
