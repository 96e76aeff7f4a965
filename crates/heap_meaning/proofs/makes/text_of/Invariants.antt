use Rattle.std.proofs.Common.{◌≡◌, take, map, pos, ℕ}
use Rattle.c_types.specs.declared.kinds.SlotType.TheVariants as type
use Rattle.heap_meaning.specs.declared.values.Value.TheVariants as value
use Rattle.heap_meaning.specs.Numbers.{stored_as}
use Rattle.heap_meaning.proofs.makes.text_of.Given as goal

abbrev pub invariant-loop-unit : goal.invariant-loop-unit
invariant-loop-unit l = l.items.items ≡ map (λ (u : ℕ). value.Int (stored_as type.Char (pos u))) (take l.unit-index l.units)
