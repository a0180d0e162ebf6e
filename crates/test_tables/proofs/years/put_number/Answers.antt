use Rattle.std.proofs.Common.{sym, subst}
use Rattle.sut_tables.specs.Problems.{IsTableOf}
use Rattle.sut_tables.proofs.Belongs.{put-belongs}
use Rattle.test_tables.proofs.years.put_number.Goals as goal

pub returns : goal.returns
returns c =
    subst (λ t. IsTableOf c.args.problem.now t) (sym c.put.ensures.after)
    (put-belongs c.args.problem.now c.args.table.now _ _ c.requires)
