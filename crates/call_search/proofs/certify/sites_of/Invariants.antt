use Rattle.call_search.specs.Made.{AreSiteNumbers}
use Rattle.call_search.proofs.certify.sites_of.Given as goal

abbrev pub invariant-loop-site : goal.invariant-loop-site
invariant-loop-site g l = AreSiteNumbers (g.G.Shapes.system l.groups) l.table.items l.group l.bits l.out.items l.site
