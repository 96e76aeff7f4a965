use Rattle.std.proofs.Common.{◌≡◌, ◌<◌, Some, length, slice_get, refl, sym, ap, ◌∙◌, arith}
use Rattle.std.proofs.lemmas.Option.{slice_get_read}
use Rattle.conflict_proof.specs.declared.derivation.Line.{Line}
use Rattle.call_summary.proofs.Knowns.{none_of_length, some_of_length, none_so_far, none_at_all, empty_here}
use Rattle.call_summary.proofs.knowing.first_empty.Goals as goal

pub returns-then-is_empty : goal.returns-then-is_empty
returns-then-is_empty c =
    let line = c.index-lines-index.result in
    let lt : c.loop-index.index < length c.args.lines.now = omega (arith, c.loop-index-test.true) in
    let there : slice_get c.args.lines.now c.loop-index.index ≡ Some line = slice_get_read c.args.lines.now (length c.args.lines.now) c.loop-index.index line refl lt c.index-lines-index.is in
    empty_here c.args.lines.now c.loop-index.index c.in_ok-at.at line there (ap (λ (x : Line). x.lits) c.index-lines-index.is ∙ sym c.lits.ensures.lits ∙ none_of_length c.lits.result.now c.is_empty.result c.is_empty.ensures c.if-is_empty.true) c.in_ok-at.ensures

pub loop-index-preserved : goal.loop-index-preserved
loop-index-preserved c =
    let line = c.index-lines-index.result in
    let lt : c.loop-index.index < length c.args.lines.now = omega (arith, c.loop-index-test.true) in
    let there : slice_get c.args.lines.now c.loop-index.index ≡ Some line = slice_get_read c.args.lines.now (length c.args.lines.now) c.loop-index.index line refl lt c.index-lines-index.is in
    none_so_far c.args.lines.now c.loop-index.index line there (λ e. some_of_length c.lits.result.now c.is_empty.result c.is_empty.ensures c.if-is_empty.false (c.lits.ensures.lits ∙ sym (ap (λ (x : Line). x.lits) c.index-lines-index.is) ∙ e)) c.loop-index.invariant

pub returns : goal.returns
returns c = none_at_all c.args.lines.now c.loop-index.index (omega (arith, c.loop-index-test.false)) c.loop-index.invariant
