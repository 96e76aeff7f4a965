use Rattle.std.proofs.Common.{◌≡◌, ◌+◌, ◌≤◌, ◌<◌, [], List, ℕ, length, ap, ◌∙◌, arith}
use Rattle.owner_vars.specs.Fields.{field_owner}
use Rattle.owner_vars.specs.Tables.{listed}
use Rattle.owner_vars.specs.Unknowns.{field_count}
use Rattle.annotate.proofs.LeadRows.{none_yet, stepped, all_leads, owner_exists}
use Rattle.annotate.proofs.leads.leads.Goals as goal

pub loop-before-init : goal.loop-before-init
loop-before-init c =
    none_yet c.args.source.now.graph.now c.args.phi.now c.in_ok-lists.lists.items
    (c.in_ok-lists.ensures ∙ ap (λ n. let none : List ℕ = [] in listed n (λ k. none)) c.structs.ensures)

pub add_lead-requires-clause-list : goal.add_lead-requires-clause-list
add_lead-requires-clause-list c =
    let g = c.args.source.now.graph.now in
    let count : c.count-before-end.result ≡ field_count g = c.count-before-end.ensures.count ∙ ap field_count c.args.source.now.fields_are in
    let lt = owner_exists g c.law.ensures.graph (c.field_laws.ensures.fields g) (c.loop-before.before + 1) (omega arith) (omega (arith, c.loop-before-test.true, count)) in
    omega (arith, lt, c.loop-before.invariant.count)

pub loop-before-preserved : goal.loop-before-preserved
loop-before-preserved c =
    let g = c.args.source.now.graph.now in
    let count : c.count-before-end.result ≡ field_count g = c.count-before-end.ensures.count ∙ ap field_count c.args.source.now.fields_are in
    let within : c.loop-before.before + 1 ≤ field_count g = omega (arith, c.loop-before-test.true, count) in
    let owner = owner_exists g c.law.ensures.graph (c.field_laws.ensures.fields g) (c.loop-before.before + 1) (omega arith) within in
    let lt : field_owner g (c.loop-before.before + 1) < length c.loop-before.lists.items = omega (arith, owner, c.loop-before.invariant.count) in
    stepped g c.args.phi.now c.loop-before.before c.loop-before.lists.items c.add_lead.new.lists.items c.loop-before.invariant within lt c.in_ok-add_lead.ensures

pub returns : goal.returns
returns c =
    let g = c.args.source.now.graph.now in
    let count : c.count-before-end.result ≡ field_count g = c.count-before-end.ensures.count ∙ ap field_count c.args.source.now.fields_are in
    all_leads g c.args.phi.now c.law.ensures.graph (c.field_laws.ensures.fields g) c.loop-before.before c.loop-before.lists.items (omega (arith, c.loop-before-test.false, count)) c.loop-before.invariant
