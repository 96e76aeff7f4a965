use Rattle.std.proofs.Common.{◌≡◌, take}
use Rattle.std.specs.List.{flat_map}
use Rattle.field_rules.specs.Lines.{later}
use Rattle.field_rules.proofs.bases.after.Given as goal

abbrev pub invariant-loop-z : goal.invariant-loop-z
invariant-loop-z l = l.out.items ≡ flat_map (later l.y) (take l.z-index l.slots)
