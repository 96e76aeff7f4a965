use Rattle.std.proofs.Common.{◌∙◌}
use Rattle.annotate.proofs.FieldRows.{tag_of_structs}
use Rattle.annotate.proofs.fields.field_tag.Goals as goal

pub returns : goal.returns
returns c =
    c.struct_tag.ensures ∙ tag_of_structs c.args.source.now.typed.now c.args.source.now.graph.now c.args.source.now.fields.now c.args.field _ c.args.source.now.fields_are
    c.owner.ensures
