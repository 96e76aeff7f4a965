use Rattle.std.proofs.Common.{◌≡◌, take}
use Rattle.c_types.specs.Fits.{kinds_of}
use Rattle.flow_graph.proofs.flows.kinds_of.Given as goal

abbrev pub invariant-loop-x : goal.invariant-loop-x
invariant-loop-x l = l.kinds.items ≡ kinds_of (take l.x-index l.slots)
