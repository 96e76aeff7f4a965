use Rattle.call_search.proofs.Certifying.{solution_made}
use Rattle.call_search.proofs.certify.certificate.Goals as goal

pub returns : goal.returns
returns g c =
    solution_made (g.G.Shapes.system c.args.groups.now) c.args.top.now c.args.table.now.items c.fields.result c.in_ok-phi.phi.items c.in_ok-instances.instances.items c.requires.top c.fields.ensures c.in_ok-phi.ensures c.in_ok-instances.ensures
