use Rattle.std.proofs.Common.{◌≡◌, length, ap, ◌∙◌, arith, rules}
use Rattle.flow_graph.specs.FlowGraph.{members_of}
use Rattle.flow_graph.specs.Fits.{pointer_count}
use Rattle.owner_vars.specs.Fields.{pointer_members}
use Rattle.owner_vars.specs.Tables.{struct_row, owners_in, targets_in}
use Rattle.owner_vars.proofs.FieldLemmas.{members_short, gather_push, struct_made, made_view, made_fields}
use Rattle.owner_vars.proofs.Lists.{listed_more}
use Rattle.owner_vars.proofs.Sizes.{members_small, first_small, first_more}
use Rattle.owner_vars.proofs.field_walk.fields.Goals as goal

pub member_rows-requires : goal.member_rows-requires
member_rows-requires c =
    let g = c.args.graph.now in
    let n = ap (λ ts. length ts) c.members-kinds.ensures in
    omega (arith, n, members_short g c.law.ensures.graph c.loop-structure.structure, first_small g c.law.ensures.graph c.loop-structure.structure, c.loop-structure.invariant.first)

pub overflow_cast-count : goal.overflow_cast-count
overflow_cast-count c = omega (arith, c.pointer_count-count.ensures, ap pointer_count c.members-kinds.ensures, members_small c.args.graph.now c.law.ensures.graph c.loop-structure.structure)

pub overflow_add-first : goal.overflow_add-first
overflow_add-first c =
    omega (
      arith,
      c.pointer_count-count.ensures,
      ap pointer_count c.members-kinds.ensures,
      members_small c.args.graph.now c.law.ensures.graph c.loop-structure.structure,
      first_small c.args.graph.now c.law.ensures.graph c.loop-structure.structure,
      c.loop-structure.invariant.first,
    )

pub loop-structure-preserved : goal.loop-structure-preserved
loop-structure-preserved c =
    let g = c.args.graph.now in
    let l = c.loop-structure in
    let kinds = c.members-kinds.result.now in
    let count : c.pointer_count-count.result ≡ pointer_count (members_of g l.structure) = c.pointer_count-count.ensures ∙ ap pointer_count c.members-kinds.ensures in
    let more = first_more g l.structure (omega (arith, c.structs-structure-end.ensures, c.loop-structure-test.true)) in
    record {
      structs = listed_more l.structure (struct_row g) l.structs.items _ _ l.invariant.structs
          (struct_made g l.structure l.first c.pointer_count-count.result kinds c.in_ok-members.members.items l.invariant.first c.members-kinds.ensures c.pointer_count-count.ensures c.in_ok-members.ensures)
          (search rules);
      owners = gather_push l.structure (λ s. owners_in s (members_of g s)) l.owners.items _ (owners_in l.structure kinds) l.invariant.owners (ap (owners_in l.structure) c.members-kinds.ensures) (search rules);
      places = gather_push l.structure (λ s. pointer_members (members_of g s)) l.places.items _ (pointer_members kinds) l.invariant.places (ap pointer_members c.members-kinds.ensures) (search rules);
      targets = gather_push l.structure (λ s. targets_in (members_of g s)) l.targets.items _ (targets_in kinds) l.invariant.targets (ap targets_in c.members-kinds.ensures) (search rules);
      first = omega (arith, count, more, l.invariant.first);
    }

pub invariant_of-result : goal.invariant_of-result
invariant_of-result c =
    let l = c.loop-structure in
    made_fields c.args.graph.now c.law.ensures.graph l.structs.items l.owners.items l.places.items l.targets.items l.structure (omega (arith, c.structs-structure-end.ensures, c.loop-structure-test.false)) l.invariant.structs l.invariant.owners l.invariant.places l.invariant.targets

pub returns : goal.returns
returns c =
    let l = c.loop-structure in
    made_view c.args.graph.now c.law.ensures.graph l.structs.items l.owners.items l.places.items l.targets.items l.structure (omega (arith, c.structs-structure-end.ensures, c.loop-structure-test.false)) l.invariant.structs l.invariant.owners l.invariant.places l.invariant.targets
