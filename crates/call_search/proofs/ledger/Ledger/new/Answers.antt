use Rattle.std.proofs.Common.{List, length, get_or, ap, ◌∙◌, arith}
use Rattle.conflict_proof.specs.declared.derivation.Line.{Line}
use Rattle.call_search.proofs.Indexing.{indexed_next}
use Rattle.call_search.proofs.ledger.Ledger.new.Goals as goal

pub loop-place-preserved : goal.loop-place-preserved
loop-place-preserved c =
    indexed_next c.args.lines c.loop-place.place c.index.result.now c.loop-place.groups.items c.add_place.new.groups.items (omega (arith, c.loop-place-test.true, c.len-place-end.ensures, c.loop-place.auto, ap (λ (ls : List Line). length ls) c.lines.view_is)) (c.index.ensures ∙ ap (λ (ls : List Line). get_or ls c.loop-place.place c.index.result.now) c.lines.view_is) c.loop-place.invariant c.in_ok-add_place.ensures.ok
