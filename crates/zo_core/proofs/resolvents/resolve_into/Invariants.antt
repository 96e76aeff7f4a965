use Rattle.std.proofs.Common.{◌≡◌, ◌+◌, ◌-◌, ◌≤◌, length, drop}
use Rattle.std.specs.Vec.{vec_len, vec_capacity}
use Rattle.zo_core.specs.Resolvents.{joined_on}
use Rattle.zo_core.proofs.Merging.{before, merged}
use Rattle.zo_core.proofs.resolvents.resolve_into.Given as goal

abbrev pub invariant-loop-i : goal.invariant-loop-i
invariant-loop-i l = record {
  first : l.i ≤ length l.a;
  second : l.j ≤ length l.b;
  len : vec_len l.made ≤ l.i + l.j;
  room : vec_capacity l.fn.made ≤ vec_capacity l.made;
  same : joined_on l.on l.a l.b ≡ before l.made.items (merged l.on (drop l.i l.a) (drop l.j l.b));
}

abbrev pub decreases-loop-i : goal.decreases-loop-i
decreases-loop-i l = (length l.a - l.i) + (length l.b - l.j)
