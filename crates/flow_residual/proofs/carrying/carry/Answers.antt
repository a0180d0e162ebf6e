use Rattle.std.proofs.Common.{◌^◌, pos, sym, subst}
use Rattle.std.proofs.lemmas.Int.{to_z-of_z}
use mir.Syntax.{w64}
use Rattle.flow_cost.specs.Cost.{IsWithin}
use Rattle.flow_residual.proofs.Excesses.{all_wider}
use Rattle.flow_residual.proofs.Written.{read_sum, tail_read, carried_by}
use Rattle.flow_residual.proofs.carrying.carry.Goals as goal

pub plus-more-requires-clause-sum : goal.plus-more-requires-clause-sum
plus-more-requires-clause-sum c = (read_sum c.args.out.now.items c.args.head.0 c.index.result.now c.requires.head (all_wider c.args.out.now.items c.requires.small) c.index.ensures).small

pub plus-more-requires-clause-x : goal.plus-more-requires-clause-x
plus-more-requires-clause-x c = subst (λ z. IsWithin (pos (2 ^ 61)) z) (sym (to_z-of_z w64 c.args.x c.ranges.x)) c.requires.x

pub minus-less-requires-clause-sum : goal.minus-less-requires-clause-sum
minus-less-requires-clause-sum c =
    (tail_read c.args.out.now.items c.args.tail.0 c.args.head.0 c.args.x c.index.result.now c.plus-more.result c.requires.tail c.requires.head c.requires.x c.ranges.x
    c.requires.small c.index.ensures c.plus-more.ensures c.index-2.result.now c.index-2.ensures).small

pub minus-less-requires-clause-x : goal.minus-less-requires-clause-x
minus-less-requires-clause-x c = subst (λ z. IsWithin (pos (2 ^ 61)) z) (sym (to_z-of_z w64 c.args.x c.ranges.x)) c.requires.x

pub returns-clause-carried : goal.returns-clause-carried
returns-clause-carried c = λ n k.
    carried_by c.args.out.now.items c.args.tail.0 c.args.head.0 c.args.x c.index.result.now c.plus-more.result c.requires.tail c.requires.head c.requires.x c.ranges.x
    c.requires.small c.index.ensures c.plus-more.ensures c.index-2.result.now c.minus-less.result c.index-2.ensures c.minus-less.ensures n
