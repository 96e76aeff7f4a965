use Rattle.std.proofs.Common.{◌≡◌, map}
use Rattle.used_names.proofs.names.listed.Given as goal

abbrev pub invariant-loop-name : goal.invariant-loop-name
invariant-loop-name l = l.items.items ≡ map (λ r. r.now) l.yielded
