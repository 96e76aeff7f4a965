use Rattle.std.proofs.Common.{◌≡◌, ◌++◌}
use Rattle.owner_vars.specs.Tables.{pointers_before}
use Rattle.owner_vars.proofs.field_walk.add_places.Given as goal

abbrev pub invariant-loop-place : goal.invariant-loop-place
invariant-loop-place l = l.places.items ≡ l.fn.places.items ++ pointers_before l.place l.kinds
