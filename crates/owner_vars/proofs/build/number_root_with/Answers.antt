use Rattle.std.proofs.Common.{◌∙◌, ap, arith}
use Rattle.owner_vars.specs.Unknowns.{field_count}
use Rattle.owner_vars.proofs.Whole.{root_small, root_made_list, root_made_table}
use Rattle.owner_vars.proofs.build.number_root_with.Goals as goal

pub overflow_cast-result : goal.overflow_cast-result
overflow_cast-result c =
    omega (arith, root_small c.args.graph.now c.law.ensures.graph c.args.firsts.now _ _ _ c.requires.bodies c.requires.count (c.count-pointers.ensures.count ∙ ap field_count c.requires.fields) c.from.ensures c.in_ok-sites.ensures.end)

pub invariant_of-result : goal.invariant_of-result
invariant_of-result c =
    let small = root_small c.args.graph.now c.law.ensures.graph c.args.firsts.now _ _ _ c.requires.bodies c.requires.count (c.count-pointers.ensures.count ∙ ap field_count c.requires.fields) c.from.ensures c.in_ok-sites.ensures.end in
    root_made_table c.args.graph.now c.args.firsts.now _ _ _ _ _ _ c.in_ok-sites.sites.end (c.count-pointers.ensures.count ∙ ap field_count c.requires.fields) c.from.ensures c.in_ok-new.ensures c.new-2.ensures.items c.in_ok-sites.ensures.items c.in_ok-sites.ensures.end c.new-3.ensures.items
    (omega (arith, small))

pub returns : goal.returns
returns c =
    root_made_list c.args.graph.now c.args.firsts.now _ _ _ _ _ _ c.in_ok-sites.sites.end (c.count-pointers.ensures.count ∙ ap field_count c.requires.fields) c.from.ensures c.in_ok-new.ensures c.new-2.ensures.items c.in_ok-sites.ensures.items c.in_ok-sites.ensures.end c.new-3.ensures.items
