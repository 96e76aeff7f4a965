use Rattle.std.proofs.Common.{◌∙◌, ℕ, List, ap, refl, arith}
use Rattle.std.specs.Prelude.{map}
use Rattle.owner_vars.specs.Unknowns.{Site, field_count}
use Rattle.owner_vars.proofs.Sizes.{fields_small, few_members}
use Rattle.owner_vars.proofs.Whole.{made_list, made_length, made_table, callees_known, middle_fits, later_fits}
use Rattle.owner_vars.proofs.build.number_with.Goals as goal

abbrev callees_of : List Site → List ℕ
callees_of ss = map (λ (s : Site). s.callee) ss

pub new-requires-clause-count : goal.new-requires-clause-count
new-requires-clause-count c = omega (arith, few_members c.args.graph.now c.law.ensures.graph c.args.members.now c.requires.ascend c.requires.bodies)

pub make_faces-requires-clause-fits : goal.make_faces-requires-clause-fits
make_faces-requires-clause-fits c =
    omega (arith, few_members c.args.graph.now c.law.ensures.graph c.args.members.now c.requires.ascend c.requires.bodies, fields_small c.args.graph.now c.law.ensures.graph, c.from.ensures, (c.count-pointers.ensures.count ∙ ap field_count c.requires.fields))

pub make_faces-requires-2-clause-procs : goal.make_faces-requires-2-clause-procs
make_faces-requires-2-clause-procs c =
    callees_known c.args.graph.now c.law.ensures.graph c.args.members.now c.requires.ascend c.requires.bodies _ _ c.in_ok-faces.faces.end _
    (c.count-pointers.ensures.count ∙ ap field_count c.requires.fields) c.from.ensures c.in_ok-faces.ensures.end (c.deref.ensures.value ∙ c.in_ok-callees.ensures ∙ ap callees_of c.in_ok-sites.ensures)

pub make_faces-requires-2-clause-fits : goal.make_faces-requires-2-clause-fits
make_faces-requires-2-clause-fits c =
    middle_fits c.args.graph.now c.law.ensures.graph c.args.members.now c.requires.ascend c.requires.bodies _ _ c.in_ok-faces.faces.end _
    (c.count-pointers.ensures.count ∙ ap field_count c.requires.fields) c.from.ensures c.in_ok-faces.ensures.end (c.deref.ensures.value ∙ c.in_ok-callees.ensures ∙ ap callees_of c.in_ok-sites.ensures)

pub make_rows-requires-clause-fits : goal.make_rows-requires-clause-fits
make_rows-requires-clause-fits c =
    later_fits c.args.graph.now c.law.ensures.graph c.args.members.now c.requires.ascend c.requires.bodies _ _ c.in_ok-faces.faces.end _
    (c.count-pointers.ensures.count ∙ ap field_count c.requires.fields) c.from.ensures c.in_ok-faces.ensures.end (c.deref.ensures.value ∙ c.in_ok-callees.ensures ∙ ap callees_of c.in_ok-sites.ensures)
    c.in_ok-called.called.end c.in_ok-called.ensures.end

pub returns-then-rows-gt-MOST_UNKNOWNS-clause-err : goal.returns-then-rows-gt-MOST_UNKNOWNS-clause-err
returns-then-rows-gt-MOST_UNKNOWNS-clause-err c =
    let length = made_length c.args.graph.now c.args.members.now c.requires.ascend _ _ _ _ _ _ _ _ _ c.in_ok-rows.rows.end
    (c.count-pointers.ensures.count ∙ ap field_count c.requires.fields) c.from.ensures c.in_ok-index.ensures c.in_ok-faces.ensures.items c.in_ok-faces.ensures.end (c.deref.ensures.value ∙ c.in_ok-callees.ensures ∙ ap callees_of c.in_ok-sites.ensures)
    c.in_ok-called.ensures.items c.in_ok-called.ensures.end c.in_ok-rows.ensures.items c.in_ok-rows.ensures.end in
    (refl, length, omega (arith, length, c.if-rows-gt-MOST_UNKNOWNS.true))

pub invariant_of-result : goal.invariant_of-result
invariant_of-result c =
    made_table c.args.graph.now c.args.members.now c.requires.ascend _ _ _ _ _ _ _ _ _ c.in_ok-rows.rows.end
    (c.count-pointers.ensures.count ∙ ap field_count c.requires.fields) c.from.ensures c.in_ok-index.ensures c.in_ok-faces.ensures.items c.in_ok-faces.ensures.end (c.deref.ensures.value ∙ c.in_ok-callees.ensures ∙ ap callees_of c.in_ok-sites.ensures)
    c.in_ok-called.ensures.items c.in_ok-called.ensures.end c.in_ok-rows.ensures.items c.in_ok-rows.ensures.end
    (omega (arith, c.if-rows-gt-MOST_UNKNOWNS.false))

pub returns-clause-ok : goal.returns-clause-ok
returns-clause-ok c =
    made_list c.args.graph.now c.args.members.now c.requires.ascend _ _ _ _ _ _ _ _ _ c.in_ok-rows.rows.end
    (c.count-pointers.ensures.count ∙ ap field_count c.requires.fields) c.from.ensures c.in_ok-index.ensures c.in_ok-faces.ensures.items c.in_ok-faces.ensures.end (c.deref.ensures.value ∙ c.in_ok-callees.ensures ∙ ap callees_of c.in_ok-sites.ensures)
    c.in_ok-called.ensures.items c.in_ok-called.ensures.end c.in_ok-rows.ensures.items c.in_ok-rows.ensures.end

pub returns-clause-within : goal.returns-clause-within
returns-clause-within c =
    let length = made_length c.args.graph.now c.args.members.now c.requires.ascend _ _ _ _ _ _ _ _ _ c.in_ok-rows.rows.end
    (c.count-pointers.ensures.count ∙ ap field_count c.requires.fields) c.from.ensures c.in_ok-index.ensures c.in_ok-faces.ensures.items c.in_ok-faces.ensures.end (c.deref.ensures.value ∙ c.in_ok-callees.ensures ∙ ap callees_of c.in_ok-sites.ensures)
    c.in_ok-called.ensures.items c.in_ok-called.ensures.end c.in_ok-rows.ensures.items c.in_ok-rows.ensures.end in
    omega (arith, length, c.if-rows-gt-MOST_UNKNOWNS.false)
