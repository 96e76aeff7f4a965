use Rattle.std.proofs.Common.{◌≡◌, ℕ, ◌<◌, ◌↔◌, [], length, get_or}
use Rattle.std.specs.List.{Contains}
use Rattle.recursion_groups.specs.Calls.{Calls}
use Rattle.recursion_groups.proofs.calls.call_lists.Given as goal

abbrev pub invariant-loop-proc : goal.invariant-loop-proc
invariant-loop-proc l = record {
  count : length l.calls.items ≡ l.proc;
  each : (p q : ℕ) → p < l.proc → Contains (get_or l.calls.items p []) q ↔ Calls l.graph p q;
}
