use Rattle.std.proofs.Common.{◌≡◌, ◌++◌, sym, ap, ◌∙◌, append_assoc, rules}
use Rattle.owner_vars.specs.Unknowns.{sites_of}
use Rattle.owner_vars.proofs.Exact.{along_more}
use Rattle.owner_vars.proofs.site_walk.add_sites.Goals as goal

pub loop-edge-preserved : goal.loop-edge-preserved
loop-edge-preserved c =
    let l = c.loop-edge in
    let more = along_more c.args.graph.now c.args.members.now c.args.proc c.args.place c.args.edges.now l.edge-index c.edge-item.result (search rules) c.edge-item.is in
    let added : c.add_site.new.sites.items ≡ l.sites.items ++ sites_of c.args.graph.now c.args.members.now c.args.proc c.args.place c.edge-item.result.action = search rules in
    added
    ∙ ap (λ us. us ++ sites_of c.args.graph.now c.args.members.now c.args.proc c.args.place c.edge-item.result.action) l.invariant
    ∙ append_assoc c.args.sites.now.items _ _
    ∙ ap (λ us. c.args.sites.now.items ++ us) (sym more)
