use Rattle.io_edge.proofs.Found.{NoneBelow}
use Rattle.io_edge.proofs.memory_files.place_of.Given as goal

abbrev pub invariant-loop-place : goal.invariant-loop-place
invariant-loop-place l = NoneBelow l.files l.name l.place
