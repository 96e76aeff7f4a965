use Rattle.std.proofs.Common.{◌<◌, ◌≤◌, List, [], ◌∷◌, ◌++◌, take, sym, ap, subst, ◌∙◌, arith}
use Rattle.std.proofs.lemmas.List.{take_more, take_all}
use Rattle.std.proofs.lemmas.List.Elements.{All-push}
use Rattle.zo_core.specs.Literals.{Literal}
use Rattle.plain_answers.specs.Stages.{AreOfGroup}
use Rattle.plain_answers.proofs.program.is_of_group.Goals as goal

pub loop-lit-preserved : goal.loop-lit-preserved
loop-lit-preserved c =
    let ls = c.args.lits.now in
    let i = c.loop-lit.lit-index in
    let l = c.lit-item.result in
    let var = c.var.ensures.var in
    let number = c.number.ensures.number in
    let low = c.number.ensures.range.0 in
    let most = c.if-number-count.false in
    let here : (0 < l.var) × (l.var ≤ c.args.count) = ((omega arith), (omega arith)) in
    let more = take_more ls i l (omega arith) ∙ ap (λ (m : Literal). take i ls ++ m ∷ []) (sym c.lit-item.is) in
    subst (λ (us : List Literal). AreOfGroup c.args.count us) (sym more) (All-push (λ (m : Literal). (0 < m.var) × (m.var ≤ c.args.count)) (take i ls) l c.loop-lit.invariant here)

pub returns : goal.returns
returns c = λ _.
    let past = c.loop-lit-test.false in
    subst (λ (us : List Literal). AreOfGroup c.args.count us) (take_all c.loop-lit.lit-index c.args.lits.now (omega arith)) c.loop-lit.invariant
