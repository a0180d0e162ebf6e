use Rattle.std.proofs.Common.{◌≡◌, take}
use Rattle.sut_circuit.specs.Circuit.{marked}
use Rattle.sut_balance.proofs.by_account.accounts_in.Given as goal

abbrev pub invariant-loop-n : goal.invariant-loop-n
invariant-loop-n l = l.accounts.items ≡ marked (take l.n l.c.accounts.items) (take l.n l.room.set.items)
