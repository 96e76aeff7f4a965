use Rattle.std.proofs.Common.{◌≡◌, ℕ, ◌<◌, []}
use Rattle.annotate.specs.Walks.{IsSeen, IsWalk}
use Rattle.annotate.proofs.walk.order.Given as goal

abbrev pub invariant-loop-start : goal.invariant-loop-start
invariant-loop-start l = record {
  walk : IsWalk l.lists l.walk;
  path : l.walk.path ≡ [];
  seen : (q : ℕ) → q < l.start → IsSeen l.walk q;
}
