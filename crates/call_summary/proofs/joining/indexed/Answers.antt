use Rattle.std.proofs.Common.{◌≡◌, ◌+◌, ◌∷◌, ◌++◌, [], List, Some, length, take, slice_get, refl, sym, ap, ◌∙◌, subst}
use Rattle.std.proofs.lemmas.Option.{slice_get_read}
use Rattle.conflict_proof.specs.declared.derivation.Line.{Line}
use Rattle.call_summary.specs.Joins.{IsIndexOf}
use Rattle.call_summary.proofs.Indexes.{taken_more}
use Rattle.call_summary.proofs.joining.indexed.Goals as goal

pub loop-line-preserved : goal.loop-line-preserved
loop-line-preserved c =
    let known = c.args.known.now in
    let k = c.loop-line.line-index in
    let item = c.line-item.result in
    let there : slice_get known k ≡ Some item = slice_get_read known (length known) k item refl c.loop-line-test.true c.line-item.is in
    let copy : c.in_ok-copy.copy ≡ item = c.in_ok-copy.ensures in
    let lines : c.enter.new.lines.items ≡ take (k + 1) known =
    c.in_ok-enter.ensures.lines ∙ ap (λ (x : Line). c.loop-line.lines.items ++ x ∷ []) copy ∙ ap (λ (ls : List Line). ls ++ item ∷ []) c.loop-line.invariant.lines ∙ sym (taken_more known k item there) in
    record { lines = lines; index = subst (λ (ls : List Line). IsIndexOf ls c.enter.new.index) lines c.in_ok-enter.ensures.index }
