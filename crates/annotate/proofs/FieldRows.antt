-- What is asked of the structs of a graph alone is that of the graph.
use Rattle.std.proofs.Common.{◌≡◌, ℕ, List, ap, ap₂, ◌∙◌}
use Rattle.c_types.specs.declared.typed.Typed.{Typed}
use Rattle.flow_graph.specs.FlowGraph.{FlowGraph}
use Rattle.owner_vars.specs.Fields.{structs_of, field_owner, field_member}
use Rattle.annotate.specs.Names.{struct_tag, member_name}
use Rattle.annotate.specs.Fields.{field_name}

pub name_of_structs : (t : Typed) (g h : FlowGraph) (f s m : ℕ) → h ≡ structs_of g → s ≡ field_owner h f → m ≡ field_member h f → member_name t s m ≡ field_name t g f
name_of_structs t g h f s m e p q = ap₂ (member_name t) (p ∙ ap (λ r. field_owner r f) e) (q ∙ ap (λ r. field_member r f) e)

pub tag_of_structs : (t : Typed) (g h : FlowGraph) (f s : ℕ) → h ≡ structs_of g → s ≡ field_owner h f → struct_tag t s ≡ struct_tag t (field_owner g f)
tag_of_structs t g h f s e p = ap (struct_tag t) (p ∙ ap (λ r. field_owner r f) e)
