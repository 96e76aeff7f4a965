use Rattle.std.proofs.Common.{◌≡◌, ℕ, ◌+◌, ◌<◌, List, [], ◌∷◌, ◌++◌, length, get_or, Some, slice_get, inl, inr, ap, sym, subst, ◌∙◌, rules}
use Rattle.std.specs.List.{All}
use Rattle.std.specs.List.Sorted.{IsStrictlyIncreasing}
use Rattle.std.proofs.lemmas.List.{get_or-map, length_push}
use Rattle.std.proofs.lemmas.Option.{slice_get_within, get_or_from_slice_get}
use Rattle.owner_vars.specs.declared.site.Site.{Site}
use Rattle.owner_vars.specs.Unknowns.{sites}
use Rattle.verdict_meaning.specs.Programs.{IsSystemOf, system_of}
use Rattle.unit_answers.specs.declared.layouts.Call.{Call}
use Rattle.unit_answers.specs.Layouts.{IsCallAt}
use Rattle.unit_answers.proofs.Places.{get_push_cases}
use Rattle.unit_answers.proofs.Calls.{own_group}
use Rattle.unit_answers.proofs.laying.group_layout.Goals as goal

pub sites-requires-clause-ascend : goal.sites-requires-clause-ascend
sites-requires-clause-ascend c =
    let p = c.args.program.now in
    let of : IsSystemOf p.graph p.facts (system_of p.graph p.facts p.groups) = c.system_is_of_graph.ensures p.graph p.facts p.groups c.law.ensures.fits c.law.ensures.groups in
    subst (λ (ms : List ℕ). IsStrictlyIncreasing ms) (sym c.members.ensures) (own_group p.graph p.facts p.groups c.law.ensures.groups of c.args.group c.requires.group).ascend

pub sites-requires-clause-bodies : goal.sites-requires-clause-bodies
sites-requires-clause-bodies c =
    let p = c.args.program.now in
    let of : IsSystemOf p.graph p.facts (system_of p.graph p.facts p.groups) = c.system_is_of_graph.ensures p.graph p.facts p.groups c.law.ensures.fits c.law.ensures.groups in
    let bodies : c.program.inside.graph.bodies ≡ p.graph.bodies = ap (λ q. q.graph.bodies) c.program.view_is in
    subst (λ (n : ℕ). All (λ (k : ℕ). k < n) c.members.result.now) (sym bodies)
    (subst (λ (ms : List ℕ). All (λ (k : ℕ). k < p.graph.bodies) ms) (sym c.members.ensures) (own_group p.graph p.facts p.groups c.law.ensures.groups of c.args.group c.requires.group).bodies)

pub call-requires-clause-callee : goal.call-requires-clause-callee
call-requires-clause-callee c =
    let p = c.args.program.now in
    let graph = ap (λ q. q.graph) c.program.view_is in
    let all = sites p.graph (get_or p.groups c.args.group []) in
    let is : c.in_ok-sites.sites ≡ all =
    c.in_ok-sites.ensures ∙ ap (λ g. sites g c.members.result.now) graph ∙ ap (sites p.graph) c.members.ensures in
    let at : slice_get all c.loop-site.site ≡ Some c.site-callee.result = ap (λ (ss : List Site). slice_get ss c.loop-site.site) (sym is) ∙ c.site-callee.ensures in
    let within = slice_get_within all c.loop-site.site c.site-callee.result at in
    let read : get_or all c.loop-site.site c.site-callee.result ≡ c.site-callee.result = get_or_from_slice_get all c.loop-site.site c.site-callee.result c.site-callee.result at in
    ap (λ (x : Site). x.callee) (sym read) ∙ sym (get_or-map (λ (x : Site). x.callee) all c.loop-site.site c.site-callee.result 0 within)

pub loop-site-preserved : goal.loop-site-preserved
loop-site-preserved c =
    let calls = c.loop-site.calls.items in
    let one = c.call.result in
    let items : c.push.new.self.items ≡ calls ++ one ∷ [] = search rules in
    let many = c.loop-site.invariant.count in
    record {
      count = ap length items ∙ length_push calls one ∙ ap (λ n. n + 1) many;
      each = λ n d at. elim (get_push_cases calls one n d (ap (λ (cs : List Call). slice_get cs n) (sym items) ∙ at)) [
        | inl old ↦ c.loop-site.invariant.each n d old
        | inr new ↦
            subst (λ (k : ℕ). IsCallAt (system_of c.args.program.now.graph c.args.program.now.facts c.args.program.now.groups) c.args.group k d) (sym (new.0 ∙ many))
            (subst (λ (x : Call). IsCallAt (system_of c.args.program.now.graph c.args.program.now.facts c.args.program.now.groups) c.args.group c.loop-site.site x) new.1 c.call.ensures)
      ];
    }
