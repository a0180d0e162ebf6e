use Rattle.sut_balance.proofs.Found.{circuit-stays}
use Rattle.sut_balance.proofs.starting.started.Goals as goal

pub returns : goal.returns
returns c =
    let built = c.in_ok-circuit.ensures.circuit in
    record {
      circuit = record {
        accounts = built.accounts;
        circuit = circuit-stays c.args.p.now c.in_ok-circuit.circuit.state c.start.new.s c.start.ensures.rest built.circuit;
      };
    }
