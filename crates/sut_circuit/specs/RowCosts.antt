-- What the flow of an arc costs, by the sort of its cost.
use Rattle.std.specs.Prelude.{ℤ}
use Rattle.flow_cost.specs.declared.costs.Either.{Either}
use Rattle.flow_cost.specs.declared.costs.Either.TheVariants.{One, Other}
use Rattle.flow_cost.specs.declared.costs.Free.{Free}
use Rattle.flow_cost.specs.declared.losses.Absolute.{Absolute}
use Rattle.flow_cost.specs.declared.losses.Band.{Band}
use Rattle.flow_cost.specs.declared.losses.Square.{Square}
use Rattle.flow_cost.specs.contracts.costs.FreeCost.TheImpl as free
use Rattle.flow_cost.specs.contracts.losses.AbsoluteCost.TheImpl as absolute
use Rattle.flow_cost.specs.contracts.losses.BandCost.TheImpl as band
use Rattle.flow_cost.specs.contracts.losses.SquareCost.TheImpl as square

-- the cost of a row
abbrev pub ArcCost : Type 0
ArcCost = Either (Either Square Absolute) (Either Band Free)

-- what a number costs
abbrev pub cost_at : ArcCost → ℤ → ℤ
cost_at (One (One c)) = (square.ghosts).value_at c
cost_at (One (Other c)) = (absolute.ghosts).value_at c
cost_at (Other (One c)) = (band.ghosts).value_at c
cost_at (Other (Other c)) = (free.ghosts).value_at c

-- how far from 0 a number may be
abbrev pub span_at : ArcCost → ℤ
span_at (One (One c)) = (square.ghosts).span_of c
span_at (One (Other c)) = (absolute.ghosts).span_of c
span_at (Other (One c)) = (band.ghosts).span_of c
span_at (Other (Other c)) = (free.ghosts).span_of c
