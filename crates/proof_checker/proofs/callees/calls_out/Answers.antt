use Rattle.std.proofs.Common.{◌≡◌, ◌<◌, List, length, map, sym, ap, ◌∙◌, subst}
use Rattle.std.specs.Prelude.{IfOk}
use Rattle.std.specs.List.{All}
use Rattle.owner_vars.specs.declared.site.Site.{Site}
use Rattle.owner_vars.specs.Unknowns.{sites}
use Rattle.owner_vars.specs.Laws.{SitesAreNumbered}
use Rattle.transfer_rules.specs.Programs.{Parts, group_at}
use Rattle.verdict_meaning.specs.declared.callee.Callee.{Callee}
use Rattle.proof_checker.specs.Sites.{called_at}
use Rattle.proof_checker.proofs.CallLemmas.{all_bodies, calls_are}
use Rattle.proof_checker.proofs.callees.calls_out.Goals as goal

pub called_at-requires : goal.called_at-requires
called_at-requires c =
    let p = c.args.program.now in
    let ms = group_at p.groups c.args.group in
    let law : SitesAreNumbered p.graph ms = c.site_laws.ensures p.graph ms c.law.ensures.fits c.members_of-members.ensures.group.ascend c.members_of-members.ensures.group.bodies in
    let is : c.in_ok-sites.sites ≡ sites p.graph ms = c.in_ok-sites.ensures ∙ ap (λ (q : Parts). sites q.graph c.members_of-members.result.now) c.program.view_is ∙ ap (sites p.graph) c.members_of-members.ensures.members in
    subst (λ (ss : List Site). All (λ (s : Site). s.callee < length c.args.numbers.now) ss) (sym is) (all_bodies p.graph ms (length c.args.numbers.now) law c.requires.numbers.count)

pub returns : goal.returns
returns c =
    let p = c.args.program.now in
    let ms = group_at p.groups c.args.group in
    let law : SitesAreNumbered p.graph ms = c.site_laws.ensures p.graph ms c.law.ensures.fits c.members_of-members.ensures.group.ascend c.members_of-members.ensures.group.bodies in
    let is : c.in_ok-sites.sites ≡ sites p.graph ms = c.in_ok-sites.ensures ∙ ap (λ (q : Parts). sites q.graph c.members_of-members.result.now) c.program.view_is ∙ ap (sites p.graph) c.members_of-members.ensures.members in
    subst (λ (ys : List Callee). IfOk c.called_at.result (λ cs. cs ≡ ys)) (ap (map (called_at c.args.numbers.now)) is ∙ calls_are p.graph p.groups c.args.numbers.now ms c.requires.numbers law) c.called_at.ensures
