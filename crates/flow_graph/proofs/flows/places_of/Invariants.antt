use Rattle.std.proofs.Common.{◌≡◌, ◌∷◌, map, take}
use Rattle.c_tree.specs.declared.position.Place.TheVariants.{In}
use Rattle.flow_graph.specs.Numbers.{place_of_key}
use Rattle.flow_graph.proofs.flows.places_of.Given as goal

abbrev pub invariant-loop-k : goal.invariant-loop-k
invariant-loop-k l = l.places.items ≡ In ∷ map place_of_key (take l.k-index l.keys)
