use Rattle.std.proofs.Common.{◌≡◌}
use Rattle.flow_graph.specs.FlowGraph.{members_of}
use Rattle.owner_vars.specs.Unknowns.{gather, first_field}
use Rattle.owner_vars.specs.Fields.{pointer_members}
use Rattle.owner_vars.specs.Tables.{listed, struct_row, owners_in, targets_in}
use Rattle.owner_vars.proofs.field_walk.fields.Given as goal

abbrev pub invariant-loop-structure : goal.invariant-loop-structure
invariant-loop-structure l = record {
  structs : l.structs.items ≡ listed l.structure (struct_row l.graph);
  owners : l.owners.items ≡ gather l.structure (λ s. owners_in s (members_of l.graph s));
  places : l.places.items ≡ gather l.structure (λ s. pointer_members (members_of l.graph s));
  targets : l.targets.items ≡ gather l.structure (λ s. targets_in (members_of l.graph s));
  first : l.first ≡ first_field l.graph l.structure;
}
