-- What a solver's answers give is right: the table and the potentials, or the set.
use Rattle.std.proofs.Common.{ℤ, sym, ◌∙◌, ap}
use Rattle.std.specs.Prelude.{length}
use Rattle.sut_tables.specs.Problems.{live_accounts}
use Rattle.sut_cert.proofs.Least.{shown-least}
use Rattle.sut_cert.proofs.Cuts.{contradiction-impossible}
use Rattle.sut_circuit.specs.Circuit.{table_from, by_account, marked}
use Rattle.sut_circuit.specs.CircuitLaws.{AnswersAreRight}
use Rattle.sut_circuit.proofs.PotentialsBack.{accounts-show}
use Rattle.sut_circuit.proofs.CutsBack.{accounts-contradict}
use Rattle.sut_circuit.proofs.Written.{marked-set, marked-live, accounts-of, by_account-potentials}

pub answers-right : {C : Type 0} (value : C → ℤ → ℤ) → AnswersAreRight value
answers-right value = λ p n costs b. (
  (λ xs ys are shows.
      let shown = accounts-show value p b.problem b.limits n costs b.circuit xs ys are.counted shows in (
        shown-least p b.problem (table_from p xs) (by_account (live_accounts p) ys) shown,
        shown,
        by_account-potentials p ys are.within,
        accounts-of (live_accounts p) ys (ap length (sym b.circuit.accounts) ∙ sym are.counted),
      )),
  (λ marks con.
      let set = accounts-contradict value p b.problem b.limits n costs b.circuit marks con in (
        contradiction-impossible p b.problem (marked (live_accounts p) marks) set,
        set,
        marked-set p marks,
        marked-live p marks,
      )),
)
