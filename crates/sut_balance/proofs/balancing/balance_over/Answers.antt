use Rattle.std.proofs.Common.{◌≡◌, length, refl, sym, ◌∙◌, ap}
use Rattle.sut_circuit.specs.Circuit.{by_account, marked}
use Rattle.sut_balance.proofs.Found.{circuit-stays, cut-impossible, made-is, potentials-are, right-cut, right-table, set-is, some-made}
use Rattle.sut_balance.proofs.balancing.balance_over.Goals as goal

pub table_over-table-requires : goal.table_over-table-requires
table_over-table-requires g c = record {
  table = c.in_ok-first-in-Least.ensures;
  circuit = record {
    accounts = c.requires.circuit.accounts;
    circuit = circuit-stays c.args.p.now c.args.c.now.state c.solve_from.new.s c.in_ok-outcome.ensures.rest c.requires.circuit.circuit;
  };
  circulation = (c.in_ok-outcome.ensures.least c.in-Least.is).circulation;
}

pub potentials_of-requires : goal.potentials_of-requires
potentials_of-requires g c =
    let circuit = circuit-stays c.args.p.now c.args.c.now.state c.solve_from.new.s c.in_ok-outcome.ensures.rest c.requires.circuit.circuit in
    c.requires.circuit.accounts ∙ sym circuit.accounts

pub accounts_in-requires : goal.accounts_in-requires
accounts_in-requires g c =
    let circuit = circuit-stays c.args.p.now c.args.c.now.state c.solve_from.new.s c.in_ok-outcome.ensures.rest c.requires.circuit.circuit in
    c.in_ok-outcome.ensures.room.set ∙ ap length (circuit.accounts ∙ sym c.requires.circuit.accounts)

pub unwrap-potentials-requires : goal.unwrap-potentials-requires
unwrap-potentials-requires g c =
    let s = c.solve_from.new.s in
    some-made c.of.result _ c.of.ensures.bad
    (potentials-are c.args.p.now s.potentials (length s.graph.nodes) c.graph.ensures.kept.potentials c.in_ok-pairs-in-Least.pairs.items
    (c.in_ok-pairs-in-Least.ensures ∙ ap (λ accounts. by_account accounts s.potentials) c.requires.circuit.accounts))

pub unwrap-set-requires : goal.unwrap-set-requires
unwrap-set-requires g c =
    let marks = c.solve_from.new.room.set.items in
    some-made c.of-in-Cut.result _ c.of-in-Cut.ensures.bad
    (set-is c.args.p.now marks c.in_ok-accounts-in-Cut.accounts.items
    (c.in_ok-accounts-in-Cut.ensures ∙ ap (λ accounts. marked accounts marks) c.requires.circuit.accounts))

pub returns-in_ok-pairs-in-Least-clause-right : goal.returns-in_ok-pairs-in-Least-clause-right
returns-in_ok-pairs-in-Least-clause-right g c =
    let s = c.solve_from.new.s in
    let circuit = circuit-stays c.args.p.now c.args.c.now.state s c.in_ok-outcome.ensures.rest c.requires.circuit.circuit in
    right-table c.args.p.now c.kept.ensures s.graph s.costs circuit s.flows s.potentials c.graph.ensures.kept.potentials (c.in_ok-outcome.ensures.least c.in-Least.is)
    c.table_over-table.result c.unwrap-potentials.result c.table_over-table.ensures.table
    (made-is c.of.result (λ ps. ps ≡ c.in_ok-pairs-in-Least.pairs.items) c.unwrap-potentials.result c.of.ensures.made c.unwrap-potentials.ensures
    ∙ c.in_ok-pairs-in-Least.ensures ∙ ap (λ accounts. by_account accounts s.potentials) c.requires.circuit.accounts)

pub returns-in_ok-accounts-in-Cut-clause-right : goal.returns-in_ok-accounts-in-Cut-clause-right
returns-in_ok-accounts-in-Cut-clause-right g c =
    let s = c.solve_from.new.s in
    let marks = c.solve_from.new.room.set.items in
    let circuit = circuit-stays c.args.p.now c.args.c.now.state s c.in_ok-outcome.ensures.rest c.requires.circuit.circuit in
    right-cut c.args.p.now c.kept.ensures s.graph s.costs circuit marks (c.in_ok-outcome.ensures.set c.in-Cut.is) c.unwrap-set.result
    (made-is c.of-in-Cut.result (λ set. set ≡ c.in_ok-accounts-in-Cut.accounts.items) c.unwrap-set.result c.of-in-Cut.ensures.made c.unwrap-set.ensures
    ∙ c.in_ok-accounts-in-Cut.ensures ∙ ap (λ accounts. marked accounts marks) c.requires.circuit.accounts)

pub returns-in_ok-accounts-in-Cut-clause-infeasible : goal.returns-in_ok-accounts-in-Cut-clause-infeasible
returns-in_ok-accounts-in-Cut-clause-infeasible g c =
    let s = c.solve_from.new.s in
    let circuit = circuit-stays c.args.p.now c.args.c.now.state s c.in_ok-outcome.ensures.rest c.requires.circuit.circuit in
    (λ _. cut-impossible c.args.p.now c.kept.ensures s.graph s.costs circuit c.solve_from.new.room.set.items (c.in_ok-outcome.ensures.set c.in-Cut.is), λ _. refl)
