use Rattle.std.proofs.Common.{◌≡◌, ℕ, ◌+◌, ◌≤◌, List, [], ◌∷◌, ◌++◌, take, ◌∙◌, ap, sym, subst, arith}
use Rattle.std.proofs.lemmas.List.{take_more, take_all}
use Rattle.std.proofs.lemmas.List.Elements.{All-push}
use Rattle.std.specs.List.{All}
use Rattle.zo_core.specs.Literals.{Literal}
use Rattle.unit_answers.proofs.closing.most_of.Goals as goal

weaker : (ls : List Literal) (m n : ℕ) → m ≤ n → All (λ (l : Literal). l.var ≤ m) ls → All (λ (l : Literal). l.var ≤ n) ls
weaker ls m n le all k d lt = let low = all k d lt in omega arith

pub loop-lit-preserved : goal.loop-lit-preserved
loop-lit-preserved c =
    let ls = c.args.lits.now in
    let i = c.loop-lit.lit-index in
    let l = c.lit-item.result in
    let most = c.max-most.result in
    let inv = c.loop-lit.invariant in
    let max = c.max-most.ensures in
    let number = c.number.ensures.number in
    let var = c.var.ensures.var in
    let range = c.number.ensures.range.1 in
    let small = inv.small in
    let up : c.loop-lit.most ≤ most = omega arith in
    let here : l.var ≤ most = omega arith in
    let more : take (i + 1) ls ≡ take i ls ++ l ∷ [] = take_more ls i l (omega arith) ∙ ap (λ (m : Literal). take i ls ++ m ∷ []) (sym c.lit-item.is) in
    record {
      least = (let low = inv.least in omega arith);
      small = omega arith;
      most = subst (λ (us : List Literal). All (λ (m : Literal). m.var ≤ most) us) (sym more)
          (All-push (λ (m : Literal). m.var ≤ most) (take i ls) l (weaker (take i ls) c.loop-lit.most most up inv.most) here);
    }

pub returns-clause-most : goal.returns-clause-most
returns-clause-most c =
    let ls = c.args.lits.now in
    subst (λ (us : List Literal). All (λ (m : Literal). m.var ≤ c.loop-lit.most) us) (take_all c.loop-lit.lit-index ls (omega arith)) c.loop-lit.invariant.most
