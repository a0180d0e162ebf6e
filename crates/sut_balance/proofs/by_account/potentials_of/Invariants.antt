use Rattle.std.proofs.Common.{◌≡◌, take}
use Rattle.sut_circuit.specs.Circuit.{by_account}
use Rattle.sut_balance.proofs.by_account.potentials_of.Given as goal

abbrev pub invariant-loop-n : goal.invariant-loop-n
invariant-loop-n l = l.pairs.items ≡ by_account (take l.n l.c.accounts.items) (take l.n l.c.state.potentials)
