use Rattle.std.proofs.Common.{◌≡◌, drop, map, length}
use Rattle.c_types.specs.declared.error.LimitKind.TheVariants.{Fields}
use Rattle.c_types.specs.Items.{limit_on}
use Rattle.c_types.proofs.limits.fields_over.Given as goal

abbrev pub invariant-loop-s : goal.invariant-loop-s
invariant-loop-s l = limit_on Fields 64 (map (λ s. length s.members) (drop l.s-index l.structs)) ≡ limit_on Fields 64 (map (λ s. length s.members) l.structs)
