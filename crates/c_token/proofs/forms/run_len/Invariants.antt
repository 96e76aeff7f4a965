use Rattle.std.proofs.Common.{◌≡◌, ◌≤◌, ◌+◌, ◌-◌, length, drop}
use Rattle.std.specs.List.{prefix_len}
use Rattle.c_token.specs.Parts.{goes_on}
use Rattle.c_token.proofs.forms.run_len.Given as goal

abbrev pub invariant-loop-n : goal.invariant-loop-n
invariant-loop-n l = record {
  fits : l.n ≤ length l.bytes;
  counted : prefix_len (goes_on l.dotted) l.bytes ≡ l.n + prefix_len (goes_on l.dotted) (drop l.n l.bytes);
}

abbrev pub decreases-loop-n : goal.decreases-loop-n
decreases-loop-n l = length l.bytes - l.n
