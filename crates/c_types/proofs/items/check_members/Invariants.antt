use Rattle.std.proofs.Common.{◌≡◌, [], drop}
use Rattle.c_types.specs.Breaches.{soonest, sooner}
use Rattle.c_types.specs.Items.{members_breaches}
use Rattle.c_types.proofs.items.check_members.Given as goal

abbrev pub invariant-loop-m : goal.invariant-loop-m
invariant-loop-m l = sooner l.first (members_breaches soonest l.seen (drop l.m-index l.members)) ≡ members_breaches soonest [] l.members
