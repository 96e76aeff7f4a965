use Rattle.std.proofs.Common.{◌≡◌, drop, map}
use Rattle.c_types.specs.declared.error.LimitKind.TheVariants.{Params}
use Rattle.c_types.specs.Items.{limit_on, pointer_params}
use Rattle.c_types.proofs.limits.params_over.Given as goal

abbrev pub invariant-loop-p : goal.invariant-loop-p
invariant-loop-p l = limit_on Params 8 (map pointer_params (drop l.p-index l.procs)) ≡ limit_on Params 8 (map pointer_params l.procs)
