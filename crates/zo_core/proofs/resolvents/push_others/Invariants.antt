use Rattle.std.proofs.Common.{◌≡◌, ◌+◌, ◌≤◌, ◌++◌, drop}
use Rattle.std.specs.Vec.{vec_len, vec_capacity}
use Rattle.zo_core.specs.Resolvents.{without}
use Rattle.zo_core.proofs.resolvents.push_others.Given as goal

abbrev pub invariant-loop-lit : goal.invariant-loop-lit
invariant-loop-lit l = record {
  items : l.made.items ++ without l.skip (drop l.lit-index l.lits) ≡ l.initial.made.items ++ without l.skip l.lits;
  len : vec_len l.made ≤ vec_len l.initial.made + l.lit-index;
  room : vec_capacity l.initial.made ≤ vec_capacity l.made;
}
