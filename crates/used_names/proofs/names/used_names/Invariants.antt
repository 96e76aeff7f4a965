use Rattle.used_names.specs.Picked.{ArePicked}
use Rattle.used_names.proofs.names.used_names.Given as goal

abbrev pub invariant-loop-index : goal.invariant-loop-index
invariant-loop-index l = ArePicked l.lines l.needed.items l.index l.used.keys
