use Rattle.std.proofs.Common.{◌≡◌, ◌≤◌, ◌+◌, drop}
use Rattle.c_types.specs.Items.{pointer_count}
use Rattle.c_types.proofs.limits.count_pointers.Given as goal

abbrev pub invariant-loop-v : goal.invariant-loop-v
invariant-loop-v l = record { within : l.count ≤ l.v-index; counted : l.count + pointer_count (drop l.v-index l.slots) ≡ pointer_count l.slots }
