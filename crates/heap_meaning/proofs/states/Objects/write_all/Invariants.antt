use Rattle.std.proofs.Common.{◌≡◌, drop}
use Rattle.heap_meaning.specs.Run.{all_written}
use Rattle.heap_meaning.proofs.states.Objects.write_all.Given as goal

-- the writes that are left give the whole result
abbrev pub invariant-loop-write : goal.invariant-loop-write
invariant-loop-write l = all_written l.graph l.self (drop l.write-index l.writes) ≡ all_written l.graph l.initial.self l.writes
