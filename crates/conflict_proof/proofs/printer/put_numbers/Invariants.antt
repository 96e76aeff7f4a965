use Rattle.std.proofs.Common.{◌≡◌, ◌++◌, take}
use Rattle.conflict_proof.specs.Text.{numbers_text}
use Rattle.conflict_proof.proofs.printer.put_numbers.Given as goal

abbrev pub invariant-loop-n : goal.invariant-loop-n
invariant-loop-n l = l.out.items ≡ l.initial.out.items ++ numbers_text (take l.n-index l.numbers)
