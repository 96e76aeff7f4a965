use Rattle.cert_checker.proofs.ShapeLemmas.{AreShaped}
use Rattle.cert_checker.proofs.shapes.first_shape_fault.Given as goal

abbrev pub invariant-loop-n : goal.invariant-loop-n
invariant-loop-n g l = AreShaped (g.G.Groups.system l.groups) l.certificate l.n
