use Rattle.call_search.proofs.Certifying.{made_instance}
use Rattle.call_search.proofs.certify.instance_of.Goals as goal

pub returns : goal.returns
returns g c =
    made_instance (g.G.Shapes.system c.args.groups.now) c.args.table.now.items c.args.entry.now _ c.as_slice-bits.result.now c.in_ok-iface.iface.items c.fields-fields.result c.own_parts.result c.site_parts.result c.in_ok-sites.sites.items c.in_ok-rows.rows.items c.entry.view_is c.requires.entry c.as_slice-bits.ensures.value
    c.fields-fields.ensures c.own_parts.ensures c.site_parts.ensures c.in_ok-iface.ensures c.in_ok-sites.ensures c.in_ok-rows.ensures
