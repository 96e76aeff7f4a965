use Rattle.std.proofs.Common.{Bool, List, [], ◌∷◌, ◌++◌, length, take, sym, ap, subst, ◌∙◌, arith}
use Rattle.std.proofs.lemmas.List.{take_more}
use Rattle.verdict_meaning.specs.Systems.{callees}
use Rattle.call_search.specs.declared.entries.Entry.{Entry}
use Rattle.plain_answers.specs.Wants.{AreAsked}
use Rattle.plain_answers.specs.Stages.{AreAllAsked}
use Rattle.plain_answers.proofs.Asking.{all_asked_none, all_asked_next}
use Rattle.plain_answers.proofs.filling.ask_for.Goals as goal

pub loop-entry-init : goal.loop-entry-init
loop-entry-init g c = all_asked_none (g.G.Shapes.system c.args.groups.now) c.args.group c.args.wanted.now.items

pub loop-entry-preserved : goal.loop-entry-preserved
loop-entry-preserved g c =
    let s = g.G.Shapes.system c.args.groups.now in
    let es = c.args.entries.now in
    let i = c.loop-entry.entry-index in
    let e = c.entry-item.result in
    let more = take_more es i e (omega arith) ∙ ap (λ (x : Entry). take i es ++ x ∷ []) (sym c.entry-item.is) in
    subst (λ (xs : List Entry). AreAllAsked s c.args.group xs c.args.wanted.now.items c.ask_all.new.wanted.items) (sym more)
    (all_asked_next s c.args.group (take i es) e c.args.wanted.now.items c.loop-entry.wanted.items c.ask_all.new.wanted.items c.loop-entry.invariant
    (subst (λ (bs : List Bool). AreAsked s c.args.group bs c.loop-entry.wanted.items c.ask_all.new.wanted.items (length (callees s c.args.group))) c.bits_of.ensures c.in_ok-ask_all.ensures))
