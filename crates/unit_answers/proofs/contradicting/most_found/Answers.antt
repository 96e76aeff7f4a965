use Rattle.std.proofs.Common.{◌≡◌, ℕ, ◌+◌, ◌≤◌, List, [], ◌∷◌, ◌++◌, take, ◌∙◌, ap, sym, subst, arith}
use Rattle.std.proofs.lemmas.List.{take_more, take_all}
use Rattle.std.proofs.lemmas.List.Elements.{All-push}
use Rattle.std.specs.List.{All}
use Rattle.unit_answers.specs.declared.findings.Finding.{Finding}
use Rattle.unit_answers.proofs.contradicting.most_found.Goals as goal

weaker : (fs : List Finding) (m n : ℕ) → m ≤ n → All (λ (f : Finding). f.lit.var ≤ m) fs → All (λ (f : Finding). f.lit.var ≤ n) fs
weaker fs m n le all k d lt = let low = all k d lt in omega arith

pub loop-finding-preserved : goal.loop-finding-preserved
loop-finding-preserved c =
    let fs = c.args.findings.now in
    let i = c.loop-finding.finding-index in
    let f = c.finding-item.result in
    let most = c.max-most.result in
    let inv = c.loop-finding.invariant in
    let max = c.max-most.ensures in
    let number = c.number.ensures.number in
    let var = c.var.ensures.var in
    let range = c.number.ensures.range.1 in
    let low = inv.small in
    let up : c.loop-finding.most ≤ most = omega arith in
    let here : f.lit.var ≤ most = omega arith in
    let more : take (i + 1) fs ≡ take i fs ++ f ∷ [] = take_more fs i f (omega arith) ∙ ap (λ (x : Finding). take i fs ++ x ∷ []) (sym c.finding-item.is) in
    record {
      small = omega arith;
      most = subst (λ (us : List Finding). All (λ (x : Finding). x.lit.var ≤ most) us) (sym more)
          (All-push (λ (x : Finding). x.lit.var ≤ most) (take i fs) f (weaker (take i fs) c.loop-finding.most most up inv.most) here);
    }

pub returns-clause-most : goal.returns-clause-most
returns-clause-most c =
    let fs = c.args.findings.now in
    subst (λ (us : List Finding). All (λ (f : Finding). f.lit.var ≤ c.loop-finding.most) us) (take_all c.loop-finding.finding-index fs (omega arith)) c.loop-finding.invariant.most
