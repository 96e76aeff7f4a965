use Rattle.std.proofs.Common.{◌≡◌, ◌<◌, ℕ, suc, [], ◌∷◌, length}
use Rattle.std.specs.Prelude.{slice_index_or}
use Rattle.owner_vars.specs.Fields.{field_target}
use Rattle.field_rules.specs.Lists.{gather, when}
use Rattle.field_rules.specs.Sight.{leads_to}
use Rattle.transfer_rules.proofs.index.targets.Given as goal

abbrev pub invariant-loop-j : goal.invariant-loop-j
invariant-loop-j l = record {
  count : length l.out.items ≡ length l.graph.structs;
  each : (s : ℕ) → s < length l.graph.structs → slice_index_or l.out.items s [] ≡ gather l.j (λ j. when (leads_to (field_target l.graph (suc j)) s) (suc j ∷ []));
}
