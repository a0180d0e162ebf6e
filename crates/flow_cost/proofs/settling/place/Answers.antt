use Rattle.std.proofs.Common.{◌≡◌, pos, ◌*ℤ◌, arith}
use Rattle.std.proofs.lemmas.Int.{ints, to_z-of_z}
use Rattle.flow_cost.proofs.settling.place.Goals as goal

pub returns : goal.returns
returns c =
    let way : c.distance-way.result ≡ pos c.args.k *ℤ c.args.by = grind (arith, to_z-of_z, c.distance-way.ensures) in
    rw (← way) (let low = rw (← way) at c.requires.low in let high = rw (← way) at c.requires.high in omega (arith, ints, low, high))
