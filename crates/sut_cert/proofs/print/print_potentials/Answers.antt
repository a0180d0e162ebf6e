use Rattle.sut_cert.proofs.PrintLemmas.{potentials-printed}
use Rattle.sut_cert.proofs.print.print_potentials.Goals as goal

pub returns-clause-text : goal.returns-clause-text
returns-clause-text c =
    potentials-printed c.args.classes.now c.args.potentials.now c.pairs-pairs.result.now c.new-out.result.items c.put_line.new.out.items c.put_potentials.new.out.items
    c.pairs-pairs.ensures.all c.new-out.ensures.items c.in_ok-put_line.ensures c.in_ok-put_potentials.ensures
