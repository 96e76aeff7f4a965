use Rattle.std.proofs.Common.{◌≡◌, ℕ, ◌<◌, []}
use Rattle.recursion_groups.specs.Walks.{IsWalk, IsMet}
use Rattle.recursion_groups.proofs.walk.find_classes.Given as goal

abbrev pub invariant-loop-root : goal.invariant-loop-root
invariant-loop-root l = record {
  walk : IsWalk l.calls l.walk;
  rest : l.walk.bounds ≡ [];
  met : (p : ℕ) → p < l.root → IsMet l.walk p;
}
