use Rattle.std.proofs.Common.{◌≡◌, ◌++◌, take}
use Rattle.std.specs.List.{flat_map}
use Rattle.owner_vars.specs.Tables.{listed}
use Rattle.annotate.specs.Conflict.{name_line}
use Rattle.annotate.specs.Positions.{spans_of}
use Rattle.annotate.proofs.conflict.put_names.Given as goal

abbrev pub invariant-loop-name : goal.invariant-loop-name
invariant-loop-name l = l.out.items ≡ l.fn.out.items ++ flat_map (name_line l.source.typed.now l.source.graph.now) (take l.name-index l.names)
