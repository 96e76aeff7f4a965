use Rattle.std.proofs.Common.{◌<◌, inl, inr, length, ◌∙◌, sym, refl, arith}
use Rattle.std.proofs.lemmas.Bool.{cases_lt}
use Rattle.std.proofs.lemmas.List.{get_or_default}
use Rattle.flow_graph.specs.Paths.{no_edge}
use Rattle.path_facts.proofs.TrackLemmas.{mark_kept, mark_put, result_here}
use Rattle.path_facts.proofs.tracks.mark_results.Goals as goal
use Rattle.path_facts.proofs.tracks.mark_results.Goals.{in-Some, in_default}

pub bounds-marks-slot : goal.bounds-marks-slot
bounds-marks-slot c =
    let l = c.loop-edge in
    let edge = c.edge-item.is ∙ get_or_default c.args.edges.now l.edge-index c.edge-item.result no_edge c.loop-edge-test.true in
    let is = sym (result_here c.args.edges.now l.edge-index l.edge-index c.edge-item.result edge refl) ∙ sym c.result_of.ensures ∙ c.in-Some.is in
    let small = c.requires l.edge-index c.in-Some.slot c.loop-edge-test.true is in
    omega (arith, small, l.auto.marks)

pub loop-edge-preserved : goal.loop-edge-preserved
loop-edge-preserved c =
    let l = c.loop-edge in
    let es = c.args.edges.now in
    let edge = c.edge-item.is ∙ get_or_default es l.edge-index c.edge-item.result no_edge c.loop-edge-test.true in
    elim c.match-result_of.branch [
      | in-Some w ↦
          let is = sym (result_here es l.edge-index l.edge-index c.edge-item.result edge refl) ∙ sym c.result_of.ensures ∙ w.in-Some.is in
          let small = c.requires l.edge-index w.in-Some.slot c.loop-edge-test.true is in
          let inside : w.in-Some.slot < length l.marks = omega (arith, small, l.auto.marks) in
          rw w.marks-is
          (record {
            kept = λ x was. mark_kept l.marks w.in-Some.slot x (l.invariant.kept x was);
            marked = λ i r below said.
                elim (cases_lt i l.edge-index) [
                  | inl before ↦ mark_kept l.marks w.in-Some.slot r (l.invariant.marked i r before said)
                  | inr last ↦
                      mark_put l.marks w.in-Some.slot r inside
                      (sym w.in-Some.is ∙ c.result_of.ensures ∙ result_here es i l.edge-index c.edge-item.result edge (omega arith) ∙ said)
                ];
          })
      | in_default w ↦
          rw w.marks-is
          (record {
            kept = l.invariant.kept;
            marked = λ i r below said.
                elim (cases_lt i l.edge-index) [
                  | inl before ↦ l.invariant.marked i r before said
                  | inr last ↦
                      absurd (w.in_default.not-Some r (c.result_of.ensures ∙ result_here es i l.edge-index c.edge-item.result edge (omega arith) ∙ said))
                ];
          })
    ]
