use Rattle.std.proofs.Common.{◌≡◌, ◌+◌, ◌-◌, ◌^◌, length, replicate, arith, ap, ◌∙◌, [], ◌∷◌, length-append}
use Rattle.c_tree.specs.declared.position.Place.TheVariants as place
use Rattle.std.proofs.lemmas.Option.{slice_get_within}
use Rattle.flow_graph.specs.FlowGraph.{flow_of}
use Rattle.path_facts.specs.Progress.{IsStartRow}
use Rattle.path_facts.proofs.StartLemmas.{one_first_row, more_first_rows, first_are_rows}
use Rattle.path_facts.proofs.start.first_rows.Goals as goal

pub places-init : goal.places-init
places-init c =
    let start : IsStartRow c.args.graph.now c.args.proc c.args.tracks.now c.in_ok-start_row.field-0 = c.in_ok-start_row.ensures in
    rw (c.in_ok-push.ensures.items, c.in_ok-rows.ensures.items)
    (record { rows = one_first_row c.args.graph.now c.args.proc c.args.tracks.now c.requires.tracks c.in_ok-start_row.field-0 start; count = omega arith })

pub places-preserved : goal.places-preserved
places-preserved c =
    let before = c.places.invariant.count in
    let some = c.places.auto in
    let full : c.in_ok-filled.field-0 ≡ replicate c.words_for-words.result (2 ^ 64 - 1) = c.in_ok-filled.ensures in
    rw c.in_ok-push-2.ensures.items
    (record {
      rows = more_first_rows c.args.graph.now c.args.proc c.args.tracks.now c.requires.tracks c.places.rows.items c.in_ok-filled.field-0 (omega arith) c.places.invariant.rows (full ∙ ap (λ w. replicate w (2 ^ 64 - 1)) c.words_for-words.ensures);
      count = length-append c.places.rows.items (c.in_ok-filled.field-0 ∷ []) ∙ ap (λ m. m + 1) before;
    })

pub returns : goal.returns
returns c =
    let entry = slice_get_within (flow_of c.args.graph.now c.args.proc).places 0 place.In (c.requires.graph.body c.args.proc c.requires.body).entry in
    let places = ap length c.places-places.ensures in
    let count = c.places.invariant.count in
    let stop = c.places-test.false in
    let high = c.places.auto in
    first_are_rows c.args.graph.now c.args.proc c.args.tracks.now c.requires.tracks c.places.rows.items c.places.invariant.rows (omega arith)
