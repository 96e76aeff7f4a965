use Rattle.std.proofs.Common.{List, get_or, sym, ap, ◌∙◌, subst}
use Rattle.verdict_meaning.specs.declared.callee.Callee.{Callee}
use Rattle.proof_checker.proofs.CallLemmas.{IsMember, called_is, called_member}
use Rattle.proof_checker.proofs.in_scope.InScope.called.Goals as goal

pub returns-clause-callee : goal.returns-clause-callee
returns-clause-callee c =
    called_is c.args.self.now.program.now c.args.self.now.calls.items c.args.group c.args.site c.index.result.now c.index-2.result.now c.args.self.now.tables.calls_are c.requires.group c.requires.site c.index.ensures
    (c.index-2.ensures ∙ ap (λ (cs : List Callee). get_or cs c.args.site c.index-2.result.now) c.behind-self.view_is)

pub returns-clause-group : goal.returns-clause-group
returns-clause-group c =
    let p = c.args.self.now.program.now in
    let is = c.system_is_of_graph.ensures p.graph p.facts p.groups c.law.ensures.fits c.law.ensures.groups in
    let found : IsMember p c.index-2.result.now = subst (IsMember p) (sym (returns-clause-callee c)) (called_member p c.law.ensures is c.args.group c.args.site c.requires.group c.requires.site) in
    found.there

pub returns-clause-member : goal.returns-clause-member
returns-clause-member c =
    let p = c.args.self.now.program.now in
    let is = c.system_is_of_graph.ensures p.graph p.facts p.groups c.law.ensures.fits c.law.ensures.groups in
    let found : IsMember p c.index-2.result.now = subst (IsMember p) (sym (returns-clause-callee c)) (called_member p c.law.ensures is c.args.group c.args.site c.requires.group c.requires.site) in
    found.member
