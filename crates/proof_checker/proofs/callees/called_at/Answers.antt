use Rattle.std.proofs.Common.{◌≡◌, ◌<◌, ◌++◌, [], ◌∷◌, List, length, get_or, map, take, ap, sym, ◌∙◌}
use Rattle.std.proofs.lemmas.Option.{get_or_from_slice_get, slice_get_within}
use Rattle.owner_vars.specs.declared.site.Site.{Site}
use Rattle.verdict_meaning.specs.declared.callee.Callee.{Callee}
use Rattle.proof_checker.specs.Sites.{called_at}
use Rattle.proof_checker.proofs.CallLemmas.{mapped_next}
use Rattle.proof_checker.proofs.callees.called_at.Goals as goal

pub loop-number-preserved : goal.loop-number-preserved
loop-number-preserved c =
    let ss : List Site = c.args.sites.now in
    let s : Site = c.site-proc.result in
    let lt : c.loop-number.number < length ss = slice_get_within ss c.loop-number.number s c.site-proc.ensures in
    let is : get_or ss c.loop-number.number s ≡ s = get_or_from_slice_get ss c.loop-number.number s s c.site-proc.ensures in
    let before : List Callee = map (called_at c.args.numbers.now) (take c.loop-number.number ss) in
    c.in_ok-push.ensures.items
    ∙ ap (λ (cs : List Callee). cs ++ called_at c.args.numbers.now s ∷ []) c.loop-number.invariant
    ∙ ap (λ (x : Site). before ++ called_at c.args.numbers.now x ∷ []) (sym is)
    ∙ mapped_next (called_at c.args.numbers.now) ss c.loop-number.number s lt
