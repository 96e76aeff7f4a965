use Rattle.std.proofs.Common.{◌≡◌, ℕ, [], length, get_or}
use Rattle.field_rules.proofs.bases.grow.Given as goal

abbrev pub invariant-loop-n : goal.invariant-loop-n
invariant-loop-n l = record {
  count : l.n ≡ length l.lists.items;
  same : (s : ℕ) → get_or l.lists.items s [] ≡ get_or l.initial.lists.items s [];
}
