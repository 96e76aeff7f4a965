use Rattle.std.proofs.Common.{◌≡◌, take}
use Rattle.zo_core.specs.Resolvents.{without}
use Rattle.unit_refutation.proofs.writing.without.Given as goal

abbrev pub invariant-loop-l : goal.invariant-loop-l
invariant-loop-l l = l.out.items ≡ without l.lit (take l.l-index l.lits)
