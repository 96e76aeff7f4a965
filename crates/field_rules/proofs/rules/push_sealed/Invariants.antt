use Rattle.std.proofs.Common.{◌≡◌, ◌++◌, map, take}
use Rattle.field_rules.specs.Meaning.{sealed_form}
use Rattle.field_rules.proofs.rules.push_sealed.Given as goal

abbrev pub invariant-loop-sigma : goal.invariant-loop-sigma
invariant-loop-sigma l = l.out.items ≡ l.initial.out.items ++ map (sealed_form l.omega) (take l.sigma-index l.sigmas)
