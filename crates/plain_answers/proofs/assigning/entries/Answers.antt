use Rattle.std.proofs.Common.{◌+◌, List, [], ◌∷◌, ◌++◌, take, sym, ap, subst, ◌∙◌, arith}
use Rattle.std.proofs.lemmas.List.{take_more}
use Rattle.std.proofs.lemmas.Option.{MatchOption-at_some}
use Rattle.call_search.specs.declared.entries.Entry.{Entry}
use Rattle.plain_answers.specs.declared.wants.Want.{Want}
use Rattle.plain_answers.specs.Stages.{AreEntries, IsEntryOf}
use Rattle.plain_answers.proofs.Assigned.{entries_next}
use Rattle.plain_answers.proofs.assigning.entries.Goals as goal

pub loop-want-preserved : goal.loop-want-preserved
loop-want-preserved g c =
    let s = g.G.Shapes.system c.args.groups.now in
    let U = g.G.GroupClauses.counting c.args.groups.now in
    let qs = c.args.wants.now in
    let i = c.loop-want.want-index in
    let q = c.want-item.result in
    let more = take_more qs i q (omega arith) ∙ ap (λ (x : Want). take i qs ++ x ∷ []) (sym c.want-item.is) in
    let one : IsEntryOf s U c.args.phi.now c.args.group q c.in-Some.made = MatchOption-at_some _ (IsEntryOf s U c.args.phi.now c.args.group q) c.in-Some.made c.in-Some.is c.in_ok-entry.ensures in
    subst (λ (es : List Entry). AreEntries s U c.args.phi.now c.args.group (take (i + 1) qs) es) (sym c.in_ok-push-in-Some.ensures.items)
    (subst (λ (ws : List Want). AreEntries s U c.args.phi.now c.args.group ws (c.loop-want.out.items ++ c.in-Some.made ∷ [])) (sym more)
    (entries_next s U c.args.phi.now c.args.group (take i qs) q c.loop-want.out.items c.in-Some.made c.loop-want.invariant one))
