use Rattle.std.proofs.Common.{◌≡◌, ℕ, ◌<◌, ◌≤◌, true, get_or, false}
use Rattle.recursion_groups.proofs.queue.next_open.Given as goal

abbrev pub invariant-loop-at : goal.invariant-loop-at
invariant-loop-at l = record {
  low : l.from ≤ l.at;
  passed : (k : ℕ) → l.from ≤ k → k < l.at → get_or l.placed (get_or l.list k 0) false ≡ true;
}
