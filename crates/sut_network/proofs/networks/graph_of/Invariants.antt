use Rattle.std.proofs.Common.{◌≡◌, map, take}
use Rattle.sut_network.specs.Building.{IsBegun}
use Rattle.sut_network.specs.Networks.{bounds_in}
use Rattle.sut_network.proofs.networks.graph_of.Given as goal

abbrev pub invariant-loop-k : goal.invariant-loop-k
invariant-loop-k l = record {
  begun : IsBegun l.p l.k l.graph;
  bounds : map bounds_in l.graph.arcs ≡ take l.k l.bounds;
}
