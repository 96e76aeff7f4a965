use Rattle.std.proofs.Common.{◌≡◌, suc, ◌+◌, ◌++◌, List, length, ap, ◌∙◌, append_assoc, arith, rules}
use Rattle.std.proofs.lemmas.List.{length-append}
use Rattle.flow_graph.specs.declared.action.Edge.{Edge}
use Rattle.flow_graph.specs.FlowGraph.{edges_from}
use Rattle.owner_vars.specs.Unknowns.{Site, sites_along}
use Rattle.owner_vars.specs.Tables.{sites_before}
use Rattle.owner_vars.proofs.Lists.{listed_more}
use Rattle.owner_vars.proofs.site_walk.add_member.Goals as goal

pub loop-place-preserved : goal.loop-place-preserved
loop-place-preserved c =
    let l = c.loop-place in
    let g = c.args.graph.now in
    let ms = c.args.members.now in
    let k = c.args.proc in
    let old = c.args.sites.now.items in
    let here : List Site = sites_along g ms k l.place (edges_from g k l.place) in
    let next : suc l.place ≡ l.place + 1 = omega arith in
    let added : c.add_sites.new.sites.items ≡ l.sites.items ++ sites_along g ms k l.place c.edges_from.result.now = search rules in
    let counted : length l.sites.items ≡ length old + length (sites_before g ms k l.place) = ap (λ (us : List Site). length us) l.invariant.sites ∙ length-append old (sites_before g ms k l.place) in
    record {
      sites = added
          ∙ ap (λ (es : List Edge). l.sites.items ++ sites_along g ms k l.place es) c.edges_from.ensures
          ∙ ap (λ (us : List Site). us ++ here) l.invariant.sites
          ∙ append_assoc old (sites_before g ms k l.place) here
          ∙ ap (λ n. old ++ sites_before g ms k n) next;
      before = listed_more l.place (λ p. length old + length (sites_before g ms k p)) l.before.items _ c.len.result l.invariant.before (omega (arith, c.len.ensures, l.sites.ok.0, counted)) (search rules);
    }
