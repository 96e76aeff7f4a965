use Rattle.std.proofs.Common.{◌≡◌, drop}
use Rattle.c_types.specs.Breaches.{soonest, sooner}
use Rattle.c_types.specs.Scopes.{with_params}
use Rattle.c_types.specs.Items.{params_breaches}
use Rattle.c_types.proofs.items.check_params.Given as goal

abbrev pub invariant-loop-m : goal.invariant-loop-m
invariant-loop-m l = record {
  first : sooner l.first (params_breaches soonest l.tables l.scope (drop l.m-index l.params)) ≡ params_breaches soonest l.tables l.fn.scope l.params;
  after : with_params l.tables.tags l.scope (drop l.m-index l.params) ≡ with_params l.tables.tags l.fn.scope l.params;
}
