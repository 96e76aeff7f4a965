use Rattle.std.proofs.Common.{◌≡◌, drop}
use Rattle.flow_graph.specs.Fits.{is_in}
use Rattle.transfer_rules.proofs.same.is_in.Given as goal

abbrev pub invariant-loop-slot : goal.invariant-loop-slot
invariant-loop-slot l = is_in l.slots l.x ≡ is_in (drop l.slot-index l.slots) l.x
