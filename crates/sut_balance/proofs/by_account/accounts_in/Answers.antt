use Rattle.std.proofs.Common.{rules, length, refl, arith}
use Rattle.std.proofs.lemmas.Option.{slice_get_read}
use Rattle.sut_balance.proofs.ByAccount.{marked-more}
use Rattle.sut_balance.proofs.by_account.accounts_in.Goals as goal

pub loop-n-preserved : goal.loop-n-preserved
loop-n-preserved c =
    let nodes = c.args.c.now.accounts.items in
    let marks = c.args.room.now.set.items in
    marked-more nodes marks c.loop-n.n _ _ c.loop-n.accounts.items c.push_marked.new.accounts.items
    (slice_get_read nodes (length nodes) c.loop-n.n _ refl (omega (arith, c.deref-account-items.ensures.len)) (search rules))
    (slice_get_read marks (length marks) c.loop-n.n _ refl (omega (arith, c.deref-account-items.ensures.len)) (search rules))
    c.loop-n.invariant c.in_ok-push_marked.ensures
