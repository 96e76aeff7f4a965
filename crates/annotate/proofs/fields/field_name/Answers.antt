use Rattle.std.proofs.Common.{◌∙◌}
use Rattle.annotate.proofs.FieldRows.{name_of_structs}
use Rattle.annotate.proofs.fields.field_name.Goals as goal

pub returns : goal.returns
returns c =
    c.member_name.ensures ∙ name_of_structs c.args.source.now.typed.now c.args.source.now.graph.now c.args.source.now.fields.now c.args.field _ _ c.args.source.now.fields_are
    c.owner-structure.ensures c.member.ensures
