use Rattle.std.proofs.Common.{◌≡◌, ℕ, [], take, get_or}
use Rattle.std.specs.List.{flat_map}
use Rattle.field_rules.specs.Lines.{base_at}
use Rattle.field_rules.proofs.bases.bases.Given as goal

abbrev pub invariant-loop-z : goal.invariant-loop-z
invariant-loop-z g l = (s : ℕ) → get_or l.lists.items s [] ≡ flat_map (base_at (g.V.View.sight l.view) l.place s) (take l.z-index l.pointers)
