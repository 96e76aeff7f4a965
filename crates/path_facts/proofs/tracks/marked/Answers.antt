use Rattle.std.proofs.Common.{◌≡◌, ◌<◌, Some, List, false, length, drop, get_or, sym, ap, ◌∙◌, arith}
use Rattle.std.proofs.lemmas.List.{take_at}
use Rattle.flow_graph.specs.declared.action.Edge.{Edge}
use Rattle.flow_graph.specs.FlowGraph.{flow_of, edges_from}
use Rattle.flow_graph.specs.Paths.{no_edge, edge_at}
use Rattle.path_facts.specs.Tracks.{result_of}
use Rattle.path_facts.proofs.RowLemmas.{edge_fits, result_exists}
use Rattle.path_facts.proofs.TrackLemmas.{marked_more, all_marked}
use Rattle.path_facts.proofs.tracks.marked.Goals as goal

pub places-init : goal.places-init
places-init c = record {
  size = c.in_ok-marks.ensures.size;
  types = λ x small is. c.in_ok-marks.ensures.each x small ∙ is;
  results = λ p i r below edge is. absurd (omega arith);
}

pub mark_results-requires : goal.mark_results-requires
mark_results-requires c i r inside is =
    let g = c.args.graph.now in
    let k = c.args.proc in
    let p = c.places.place in
    let edge : i < length (edges_from g k p) = omega (arith, inside, ap length c.edges_from.ensures) in
    let said : result_of (edge_at g k p i).action ≡ Some r =
    ap (λ (es : List Edge). result_of (get_or es i no_edge).action) (sym c.edges_from.ensures) ∙ is in
    let small = result_exists g (flow_of g k).slots (edge_at g k p i).action (edge_fits g k p i c.requires.graph c.requires.body edge).action r said in
    omega (arith, small, ap length c.as_mut_slice.ensures.value, c.places.invariant.size)

pub places-preserved : goal.places-preserved
places-preserved c =
    let back = take_at c.mark_results.new.marks (drop (length c.mark_results.new.marks) c.places.marks.items) c.places.marks.len (omega (arith, c.mark_results.auto.marks, c.as_mut_slice.ensures.len, c.places.marks.ok.0)) in
    let value = c.as_mut_slice.ensures.value in
    rw back
    (marked_more c.args.graph.now c.args.proc c.places.marks.items c.mark_results.new.marks c.places.place c.edges_from.result.now c.edges_from.ensures
    c.places.invariant (omega (arith, c.mark_results.auto.marks, ap length value))
    (λ x was. c.mark_results.ensures.kept x (ap (λ bs. get_or bs x false) value ∙ was)) c.mark_results.ensures.marked)

pub returns : goal.returns
returns c =
    let places = ap length c.places-place-end.ensures in
    let stop = c.places-test.false in
    all_marked c.args.graph.now c.args.proc c.places.marks.items c.places.place c.requires.graph c.requires.body c.places.invariant (omega arith)
