use Rattle.std.proofs.Common.{◌≡◌, ◌++◌, map, take}
use Rattle.zo_core.specs.declared.forms.Form.TheVariants.{AtMost}
use Rattle.field_rules.proofs.rules.push_bounds.Given as goal

abbrev pub invariant-loop-phi : goal.invariant-loop-phi
invariant-loop-phi l = l.out.items ≡ l.initial.out.items ++ map (AtMost l.omega) (take l.phi-index l.phis)
