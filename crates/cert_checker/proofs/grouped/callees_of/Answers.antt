use Rattle.std.proofs.Common.{◌≡◌, ◌<◌, ◌+◌, ℕ, List, Some, length, get_or, slice_get, sym, ap, ◌∙◌, subst, arith, rules}
use Rattle.std.specs.List.{All}
use Rattle.std.specs.List.Sorted.{IsStrictlyIncreasing}
use Rattle.owner_vars.specs.Laws.{SitesAreNumbered}
use Rattle.owner_vars.specs.declared.site.Site.{Site}
use Rattle.owner_vars.specs.Unknowns.{sites}
use Rattle.transfer_rules.specs.Programs.{Parts, group_at}
use Rattle.cert_checker.proofs.ProgramLemmas.{group_ascends, group_bodies}
use Rattle.cert_checker.proofs.GroupedLemmas.{callee_within, one_more_callee}
use Rattle.cert_checker.proofs.grouped.callees_of.Goals as goal

pub sites-requires-clause-ascend : goal.sites-requires-clause-ascend
sites-requires-clause-ascend c =
    let p = c.args.program.now in
    subst IsStrictlyIncreasing (sym c.members_of.ensures) (group_ascends p.graph p.groups c.args.group c.law.ensures.groups c.requires.group)

pub sites-requires-clause-bodies : goal.sites-requires-clause-bodies
sites-requires-clause-bodies c =
    let p = c.args.program.now in
    subst (λ (q : Parts). All (λ (k : ℕ). k < q.graph.bodies) c.members_of.result.now) (sym c.program.view_is)
    (subst (All (λ (k : ℕ). k < p.graph.bodies)) (sym c.members_of.ensures) (group_bodies p.graph p.groups c.args.group c.law.ensures.groups c.requires.group))

pub bounds-numbers-proc : goal.bounds-numbers-proc
bounds-numbers-proc c =
    let p = c.args.program.now in
    let all : c.in_ok-sites.sites ≡ sites p.graph (group_at p.groups c.args.group) = search rules in
    let numbered : SitesAreNumbered p.graph (group_at p.groups c.args.group) =
    c.site_laws.ensures p.graph (group_at p.groups c.args.group) c.law.ensures.fits (group_ascends p.graph p.groups c.args.group c.law.ensures.groups c.requires.group)
    (group_bodies p.graph p.groups c.args.group c.law.ensures.groups c.requires.group) in
    callee_within p.graph (group_at p.groups c.args.group) numbered c.args.numbers.now c.requires.numbers.count c.loop-number.number c.site-proc.result
    (subst (λ (ss : List Site). slice_get ss c.loop-number.number ≡ Some c.site-proc.result) all c.site-proc.ensures)

pub loop-number-preserved : goal.loop-number-preserved
loop-number-preserved c =
    let p = c.args.program.now in
    let all : c.in_ok-sites.sites ≡ sites p.graph (group_at p.groups c.args.group) = search rules in
    let numbered : SitesAreNumbered p.graph (group_at p.groups c.args.group) =
    c.site_laws.ensures p.graph (group_at p.groups c.args.group) c.law.ensures.fits (group_ascends p.graph p.groups c.args.group c.law.ensures.groups c.requires.group)
    (group_bodies p.graph p.groups c.args.group c.law.ensures.groups c.requires.group) in
    one_more_callee p.graph p.groups c.args.group numbered c.args.numbers.now c.requires.numbers c.loop-number.number c.site-proc.result
    (subst (λ (ss : List Site). slice_get ss c.loop-number.number ≡ Some c.site-proc.result) all c.site-proc.ensures)
    c.loop-number.items.items c.push.new.self.items c.loop-number.invariant c.in_ok-push.ensures.items
