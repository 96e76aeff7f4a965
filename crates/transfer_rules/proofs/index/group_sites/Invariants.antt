use Rattle.std.proofs.Common.{◌≡◌, map, take}
use Rattle.owner_vars.specs.Unknowns.{sites}
use Rattle.transfer_rules.proofs.index.group_sites.Given as goal

abbrev pub invariant-loop-group : goal.invariant-loop-group
invariant-loop-group l = l.out.items ≡ map (sites l.graph) (take l.group-index l.groups)
