use Rattle.std.proofs.Common.{arith}
use Rattle.std.proofs.lemmas.List.Sums.{count_by-le-length}
use Rattle.std.specs.Prelude.{is_some}
use Rattle.path_facts.proofs.TrackLemmas.{numbered_yes, numbered_no}
use Rattle.path_facts.proofs.tracks.numbered.Goals as goal
use Rattle.path_facts.proofs.tracks.numbered.Goals.{then-mark+in_ok-push, else-mark+in_ok-push-2}

pub overflow_add-count : goal.overflow_add-count
overflow_add-count c =
    let are = c.loop-mark.invariant in
    omega (arith, count_by-le-length is_some c.loop-mark.tracks.items, are.counted, are.size, c.loop-mark-test.true, c.requires)

pub loop-mark-preserved : goal.loop-mark-preserved
loop-mark-preserved c =
    let l = c.loop-mark in
    elim c.if-mark.branch [
      | then-mark+in_ok-push w ↦ rw (w.tracks-is, w.count-is, w.in_ok-push.ensures.items) (numbered_yes c.args.marks.now l.mark-index l.tracks.items l.count l.invariant)
      | else-mark+in_ok-push-2 w ↦ rw (w.tracks-is, w.count-is, w.in_ok-push-2.ensures.items) (numbered_no c.args.marks.now l.mark-index l.tracks.items l.count l.invariant w.if-mark.false)
    ]
