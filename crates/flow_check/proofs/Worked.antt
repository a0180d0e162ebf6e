-- The definitions compute: a graph of two nodes, with an arc each way.
use Rattle.std.proofs.Common.{◌≡◌, true, false, [], ◌∷◌, pos, negsuc, refl, arith}
use Rattle.std.proofs.lemmas.Int.{ints}
use Rattle.flow_cost.specs.Condition.{slope_up, slope_down}
use Rattle.flow_cost.specs.Loss.{weighted, square_loss, band_loss}
use Rattle.flow_graph.specs.declared.arcs.Arc.{Arc}
use Rattle.flow_graph.specs.Circulation.{excess, total_cost}
use Rattle.flow_graph.specs.Contradiction.{entering_low, leaving_high, Contradicts}

abbrev there : Arc
there = record { tail = 0; head = 1; lo = pos 2; hi = pos 9 }

abbrev back : Arc
back = record { tail = 1; head = 0; lo = pos 0; hi = pos 1 }

excess_there : excess (there ∷ back ∷ []) (pos 5 ∷ pos 3 ∷ []) 1 ≡ pos 2
excess_there = refl

excess_back : excess (there ∷ back ∷ []) (pos 5 ∷ pos 3 ∷ []) 0 ≡ negsuc 1
excess_back = refl

entering : entering_low (false ∷ true ∷ []) (there ∷ back ∷ []) ≡ pos 2
entering = refl

leaving : leaving_high (false ∷ true ∷ []) (there ∷ back ∷ []) ≡ pos 1
leaving = refl

squares : total_cost (λ t x. weighted 1 square_loss t x) (pos 104 ∷ pos 100 ∷ []) (pos 102 ∷ pos 102 ∷ []) ≡ pos 8
squares = refl

in_band : weighted 1 (band_loss 2) (pos 104) (pos 101) ≡ pos 1
in_band = refl

-- five units cost 50 more in all, four of them 36
rounded_up : slope_up (weighted 1 square_loss (pos 0)) (pos 4) (pos 1) ≡ pos 6
rounded_up = refl

rounded_down : slope_down (weighted 1 square_loss (pos 0)) (pos 3) (pos 2) ≡ pos 1
rounded_down = refl

-- a two-way graph with no circulation: the first node's bounds contradict
tight_there : Arc
tight_there = record { tail = 0; head = 1; lo = pos 0; hi = pos 5 }

wide_back : Arc
wide_back = record { tail = 1; head = 0; lo = pos 6; hi = pos 8 }

first_node : Contradicts (tight_there ∷ wide_back ∷ []) (true ∷ false ∷ [])
unfolding tight_there wide_back
first_node = record { gap = omega (arith, ints) }
