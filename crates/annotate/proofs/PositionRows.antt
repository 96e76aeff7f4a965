-- Where a place of a body stands.
use Rattle.std.proofs.Common.{◌≡◌, ℕ, ◌<◌, List, [], Some, get_or, sym, ap, ◌∙◌}
use Rattle.std.specs.Option.{option_map_or}
use Rattle.c_tree.specs.declared.position.Place.{Place}
use Rattle.c_tree.specs.declared.position.Span.{Span}
use Rattle.c_tree.specs.declared.tree.ProcItem.{ProcItem}
use Rattle.c_types.specs.declared.typed.Typed.{Typed}
use Rattle.flow_graph.specs.FlowGraph.{FlowGraph}
use Rattle.owner_vars.specs.Tables.{listed}
use Rattle.owner_vars.proofs.Lists.{get_or-listed}
use Rattle.annotate.specs.Names.{item_of}
use Rattle.annotate.specs.Positions.{no_span, spans_of, place_of, place_span, position}

pub position_is : (t : Typed) (g : FlowGraph) (table : List (List Span)) (k p : ℕ) (i : ProcItem) (spans : List Span) (place : Place) (at : Span)
    → table ≡ listed g.bodies (spans_of t) → k < g.bodies → item_of t k ≡ Some i → spans ≡ get_or table k [] → place ≡ place_of g k p → at ≡ place_span spans i place
    → at ≡ position t g k p
position_is t g table k p i spans place at made lt is row where_is span =
    let same : spans ≡ spans_of t k = row ∙ ap (λ ts. get_or ts k []) made ∙ get_or-listed g.bodies k (spans_of t) [] lt in
    span ∙ ap (λ ss. place_span ss i place) same ∙ ap (place_span (spans_of t k) i) where_is
    ∙ sym (ap (λ o. option_map_or (λ (j : ProcItem). place_span (spans_of t k) j (place_of g k p)) o no_span) is)
