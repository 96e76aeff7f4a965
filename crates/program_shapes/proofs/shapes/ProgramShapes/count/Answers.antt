use Rattle.std.proofs.Common.{◌<◌, ◌^◌, ap, sym, subst, ◌∙◌}
use Rattle.verdict_meaning.specs.Programs.{system_in}
use Rattle.program_shapes.specs.Tables.{GroupTable, IsGroupTable}
use Rattle.program_shapes.proofs.Sums.{table_read}
use Rattle.program_shapes.proofs.shapes.ProgramShapes.count.Goals as goal

pub returns-clause-count : goal.returns-clause-count
returns-clause-count c =
    let p = c.args.self.now.program.now in
    let t : IsGroupTable (system_in p) c.args.group c.index.result.now = table_read (system_in p) c.args.self.now.groups.items c.args.group c.index.result.now c.args.self.now.tables.groups c.requires c.index.ensures in
    ap (λ (x : GroupTable). x.count) c.behind-self.view_is ∙ t.count_is

pub returns-clause-small : goal.returns-clause-small
returns-clause-small c =
    let p = c.args.self.now.program.now in
    let t : IsGroupTable (system_in p) c.args.group c.index.result.now = table_read (system_in p) c.args.self.now.groups.items c.args.group c.index.result.now c.args.self.now.tables.groups c.requires c.index.ensures in
    subst (λ (x : GroupTable). x.count < 2 ^ 31) (sym c.behind-self.view_is) t.small
