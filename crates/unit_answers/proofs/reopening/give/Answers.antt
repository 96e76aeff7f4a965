use Rattle.std.proofs.Common.{List, [], ◌∷◌, ◌++◌, take, ap, sym, subst, ◌∙◌, arith}
use Rattle.std.proofs.lemmas.List.{take_more}
use Rattle.zo_core.specs.Literals.{Literal}
use Rattle.unit_answers.specs.Reopened.{Gives}
use Rattle.unit_answers.proofs.GivenLemmas.{gives_more}
use Rattle.unit_answers.proofs.reopening.give.Goals as goal

pub loop-lit-preserved : goal.loop-lit-preserved
loop-lit-preserved c =
    let xs = c.args.given.now in
    let i = c.loop-lit.lit-index in
    let l = c.lit-item.result in
    let more = take_more xs i l (omega arith) ∙ ap (λ (m : Literal). take i xs ++ m ∷ []) (sym c.lit-item.is) in
    subst (λ (ls : List Literal). Gives ls c.args.trail.now c.add.new.self) (sym more)
    (gives_more (take i xs) l c.args.trail.now c.loop-lit.trail c.add.new.self c.in_ok-add.field-0 c.loop-lit.invariant c.in_ok-add.ensures)
