use Rattle.std.proofs.Common.{ap, ◌∙◌, arith}
use Rattle.verdict_meaning.specs.Programs.{system_in}
use Rattle.program_shapes.specs.Tables.{GroupTable, IsGroupTable}
use Rattle.program_shapes.proofs.Sums.{table_read}
use Rattle.program_shapes.proofs.shapes.ProgramShapesShapes.site_parts.Goals as goal

pub returns : goal.returns
returns c =
    let lt = c.requires in
    let p = c.args.self.now.program.now in
    let t : IsGroupTable (system_in p) c.args.group c.index.result.now = table_read (system_in p) c.args.self.now.groups.items c.args.group c.index.result.now c.args.self.now.tables.groups (omega arith) c.index.ensures in
    ap (λ (x : GroupTable). x.called) c.behind-self.view_is ∙ t.called
