use Rattle.std.proofs.Common.{◌≡◌, ◌++◌, drop, length}
use Rattle.heap_meaning.specs.Run.{passed}
use Rattle.heap_meaning.proofs.makes.passed_slots.Given as goal

-- the slots so far, and those that are left to fill
abbrev pub invariant-loop-kind : goal.invariant-loop-kind
invariant-loop-kind l =
    (length l.items.items ≡ l.kind-index) × (l.items.items ++ passed l.slots (drop l.kind-index l.args) (drop l.kind-index l.types) ≡ passed l.slots l.args l.types)
