use Rattle.std.proofs.Common.{◌≡◌, ◌++◌, take}
use Rattle.owner_vars.specs.Unknowns.{sites_along}
use Rattle.owner_vars.proofs.site_walk.add_sites.Given as goal

abbrev pub invariant-loop-edge : goal.invariant-loop-edge
invariant-loop-edge l = l.sites.items ≡ l.fn.sites.items ++ sites_along l.graph l.members l.proc l.place (take l.edge-index l.edges)
