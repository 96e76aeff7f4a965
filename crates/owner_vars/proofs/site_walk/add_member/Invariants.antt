use Rattle.std.proofs.Common.{◌≡◌, ◌+◌, ◌++◌, length}
use Rattle.owner_vars.specs.Tables.{listed, sites_before}
use Rattle.owner_vars.proofs.site_walk.add_member.Given as goal

abbrev pub invariant-loop-place : goal.invariant-loop-place
invariant-loop-place l = record {
  sites : l.sites.items ≡ l.fn.sites.items ++ sites_before l.graph l.members l.proc l.place;
  before : l.before.items ≡ listed l.place (λ p. length l.fn.sites.items + length (sites_before l.graph l.members l.proc p));
}
