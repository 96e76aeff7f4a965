use Rattle.std.proofs.Common.{◌∙◌, length, get_or, ap, arith}
use Rattle.owner_vars.specs.Tables.{StructRow}
use Rattle.owner_vars.proofs.FieldLemmas.{has_struct, struct_within, member_within, number_known}
use Rattle.owner_vars.proofs.field_table.Fields.number.Goals as goal

pub index-row-requires : goal.index-row-requires
index-row-requires c =
    let lt = struct_within _ _ _ _ _ _ c.self.view_is c.self.invariant c.args.structure (has_struct _ _ _ _ _ _ c.self.view_is c.self.invariant c.args.structure c.args.member c.requires) in
    omega (arith, lt, c.self.inside.structs.ok.0)

pub index-requires : goal.index-requires
index-requires c =
    let lt = member_within _ _ _ _ _ _ c.self.view_is c.self.invariant c.args.structure c.args.member c.requires c.index-row.result.now c.index-row.ensures in
    omega (arith, lt, ap (λ (q : StructRow). length q.members) c.row.view_is, c.row.inside.members.ok.0)

pub returns : goal.returns
returns c =
    number_known _ _ _ _ _ _ c.self.view_is c.self.invariant c.args.structure c.args.member c.requires c.index-row.result.now c.index-row.ensures c.index.result.now
    (c.index.ensures ∙ ap (λ (q : StructRow). get_or q.members c.args.member c.index.result.now) c.row.view_is)
