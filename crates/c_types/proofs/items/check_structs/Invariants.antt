use Rattle.std.proofs.Common.{◌≡◌, [], drop}
use Rattle.c_types.specs.Breaches.{soonest, sooner}
use Rattle.c_types.specs.Items.{structs_breaches}
use Rattle.c_types.proofs.items.check_structs.Given as goal

abbrev pub invariant-loop-d : goal.invariant-loop-d
invariant-loop-d l = sooner l.first (structs_breaches soonest l.seen (drop l.d-index l.structs)) ≡ structs_breaches soonest [] l.structs
