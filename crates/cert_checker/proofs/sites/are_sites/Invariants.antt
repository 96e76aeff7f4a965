use Rattle.cert_checker.proofs.SiteLemmas.{AreSitesUpTo}
use Rattle.cert_checker.proofs.sites.are_sites.Given as goal

abbrev pub invariant-loop-k : goal.invariant-loop-k
invariant-loop-k g l = AreSitesUpTo (g.G.Groups.system l.groups) l.instances l.n l.instance l.k
