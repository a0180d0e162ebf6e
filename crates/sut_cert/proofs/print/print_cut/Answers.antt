use Rattle.sut_cert.proofs.PrintLemmas.{cut-printed}
use Rattle.sut_cert.proofs.print.print_cut.Goals as goal

pub returns-clause-text : goal.returns-clause-text
returns-clause-text c =
    cut-printed c.args.classes.now c.args.set.now c.accounts-accounts.result.now c.new-out.result.items c.put_line.new.out.items c.put_accounts.new.out.items
    c.accounts-accounts.ensures.all c.new-out.ensures.items c.in_ok-put_line.ensures c.in_ok-put_accounts.ensures
