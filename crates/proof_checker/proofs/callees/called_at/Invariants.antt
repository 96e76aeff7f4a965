use Rattle.std.proofs.Common.{◌≡◌, map, take}
use Rattle.proof_checker.specs.Sites.{called_at}
use Rattle.proof_checker.proofs.callees.called_at.Given as goal

abbrev pub invariant-loop-number : goal.invariant-loop-number
invariant-loop-number l = l.items.items ≡ map (called_at l.numbers) (take l.number l.sites)
