use Rattle.std.proofs.Common.{◌≡◌, ◌++◌, drop}
use Rattle.c_types.specs.Declarations.{params_types}
use Rattle.c_types.proofs.declarations.param_types.Given as goal

abbrev pub invariant-loop-m : goal.invariant-loop-m
invariant-loop-m l = l.items.items ++ params_types l.tags (drop l.m-index l.params) ≡ params_types l.tags l.params
