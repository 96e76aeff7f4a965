use Rattle.std.proofs.Common.{◌≡◌, ◌^◌, ◌<◌, ℕ, [], length, slice_index_or, vec_len}
use Rattle.cert_checker.specs.Grouped.{called}
use Rattle.cert_checker.proofs.program.scoped.Given as goal

abbrev pub invariant-loop-group : goal.invariant-loop-group
invariant-loop-group l = record {
  count : vec_len l.callees ≡ l.group;
  each : (e : ℕ) → e < l.group → slice_index_or l.callees.items e [] ≡ called l.program.graph l.program.groups e;
  small : (e : ℕ) → e < l.group → length (called l.program.graph l.program.groups e) < 2 ^ 32;
}
