use Rattle.std.proofs.Common.{◌≡◌, ◌<◌, ◌+◌, ◌++◌, suc, [], ◌∷◌, List, ℕ, length, get_or, take, ap, ◌∙◌, arith, rules}
use Rattle.verdict_meaning.specs.declared.callee.Callee.{Callee}
use Rattle.verdict_meaning.specs.Systems.{firsts}
use Rattle.proof_checker.proofs.CallLemmas.{firsts_next}
use Rattle.proof_checker.proofs.callees.firsts.Goals as goal

pub loop-group-preserved : goal.loop-group-preserved
loop-group-preserved c =
    let gs : List (List ℕ) = c.args.program.now.groups in
    let i : ℕ = c.loop-group.group in
    let lt : i < length gs = search rules in
    let next : suc i ≡ i + 1 = omega arith in
    c.in_ok-push.ensures.items
    ∙ ap (λ (cs : List Callee). cs ++ record { proc = get_or c.members_of.result.now 0 0; group = i } ∷ []) c.loop-group.invariant
    ∙ ap (λ (ms : List ℕ). firsts 0 (take i gs) ++ record { proc = get_or ms 0 0; group = i } ∷ []) c.members_of.ensures.members
    ∙ firsts_next 0 i gs i lt (omega arith)
    ∙ ap (λ n. firsts 0 (take n gs)) next
