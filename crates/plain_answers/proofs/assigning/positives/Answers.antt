use Rattle.std.proofs.Common.{List, [], ◌∷◌, ◌++◌, take, sym, ap, subst, ◌∙◌, arith}
use Rattle.std.proofs.lemmas.List.{take_more}
use Rattle.zo_core.specs.Literals.{Literal}
use Rattle.plain_answers.proofs.Bits.{AreBitsOf, bits_next}
use Rattle.plain_answers.proofs.assigning.positives.Goals as goal

pub loop-lit-preserved : goal.loop-lit-preserved
loop-lit-preserved c =
    let ls = c.args.lits.now in
    let i = c.loop-lit.lit-index in
    let l = c.lit-item.result in
    let more = take_more ls i l (omega arith) ∙ ap (λ (m : Literal). take i ls ++ m ∷ []) (sym c.lit-item.is) in
    subst (λ (us : List Literal). AreBitsOf c.args.count us c.mark.new.bits.items) (sym more)
    (bits_next c.args.count (take i ls) l c.loop-lit.bits.items c.mark.new.bits.items c.mark.ensures.some c.mark.ensures.positive c.mark.ensures.negative c.loop-lit.invariant)
