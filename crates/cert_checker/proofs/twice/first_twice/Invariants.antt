use Rattle.cert_checker.specs.Keys.{keys_in}
use Rattle.cert_checker.proofs.KeyLemmas.{AreSeen}
use Rattle.cert_checker.proofs.twice.first_twice.Given as goal

abbrev pub invariant-loop-n : goal.invariant-loop-n
invariant-loop-n g l = AreSeen (g.G.Groups.system l.groups) l.certificate.instances (keys_in l.keys) l.n
