use Rattle.std.proofs.Common.{◌≡◌, take}
use Rattle.std.specs.Prelude.{map}
use Rattle.owner_vars.specs.Unknowns.{Site}
use Rattle.owner_vars.proofs.site_table.callees.Given as goal

abbrev pub invariant-loop-site : goal.invariant-loop-site
invariant-loop-site l = l.callees.items ≡ map (λ (s : Site). s.callee) (take l.site-index l.sites)
