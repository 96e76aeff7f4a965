-- Where places stand in the source.
use Rattle.std.specs.Prelude.{ℕ, cond, List, [], ◌∷◌, ◌++◌, Option, slice_index_or, decimal}
use Rattle.std.specs.Option.{option_map_or}
use Rattle.c_tree.specs.declared.position.Place.{Place}
use Rattle.c_tree.specs.declared.position.Place.TheVariants as place
use Rattle.c_tree.specs.declared.position.Span.{Span}
use Rattle.c_tree.specs.declared.tree.ProcItem.{ProcItem}
use Rattle.c_tree.specs.View.{stmt_view}
use Rattle.c_types.specs.declared.typed.Typed.{Typed}
use Rattle.flow_graph.specs.FlowGraph.{FlowGraph, flow_of, has_body}
use Rattle.annotate.specs.Names.{item_of}
use Rattle.annotate.specs.Spans.{node_spans}

-- where nothing stands
abbrev pub no_span : Span
no_span = record { start = 0; end = 0; line = 0; col = 0 }

abbrev pub item_spans : ProcItem → List Span
item_spans i = option_map_or (λ s. node_spans (stmt_view s)) i.body []

-- the spans of the nodes of a procedure's body, by their numbers
abbrev pub spans_of : Typed → ℕ → List Span
spans_of t k = option_map_or item_spans (item_of t k) []

-- what a place stands for; the exit where there is none
abbrev pub place_of : FlowGraph → ℕ → ℕ → Place
place_of g k p = cond (has_body g k) (slice_index_or (flow_of g k).places p place.Out) place.Out

-- the entry stands at the procedure's name, a node's place at the node, the end and the exit at the closing brace
abbrev pub place_span : List Span → ProcItem → Place → Span
place_span spans i place.In = i.name_at
place_span spans i (place.At n j) = slice_index_or spans n no_span
place_span spans i place.End = i.close
place_span spans i place.Out = i.close

abbrev pub position : Typed → FlowGraph → ℕ → ℕ → Span
position t g k p = option_map_or (λ (i : ProcItem). place_span (spans_of t k) i (place_of g k p)) (item_of t k) no_span

-- the line and the column, both from 1
abbrev pub position_text : Span → List ℕ
position_text s = decimal s.line ++ (58 ∷ decimal s.col)
