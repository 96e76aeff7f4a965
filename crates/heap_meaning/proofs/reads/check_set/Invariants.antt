use Rattle.std.proofs.Common.{◌≡◌, drop}
use Rattle.heap_meaning.specs.Reads.{all_set}
use Rattle.heap_meaning.proofs.reads.check_set.Given as goal

-- what is left decides
abbrev pub invariant-loop-slot : goal.invariant-loop-slot
invariant-loop-slot l = all_set l.slots l.args ≡ all_set l.slots (drop l.slot-index l.args)
