use Rattle.own_cert.proofs.HolderLemmas.{Walks}
use Rattle.own_cert.proofs.versions.line_in_2.Given as goal

abbrev pub invariant-loop-instance : goal.invariant-loop-instance
invariant-loop-instance l = Walks l.c l.line l.at l.left l.instance-index
