use Rattle.std.proofs.Common.{◌≡◌, ◌+◌, take}
use Rattle.std.specs.Prelude.{sum_by}
use Rattle.program_shapes.specs.Tables.{AreSitesOf, parts_there}
use Rattle.program_shapes.proofs.groups.site_shapes.Given as goal

abbrev pub invariant-loop-call : goal.invariant-loop-call
invariant-loop-call l = record { sites : AreSitesOf l.outer l.call-index l.calls l.sites.items; before : l.before ≡ l.outer + sum_by parts_there (take l.call-index l.calls) }
