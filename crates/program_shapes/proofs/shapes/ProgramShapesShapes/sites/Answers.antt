use Rattle.std.proofs.Common.{◌≡◌, length, ap, ◌∙◌, arith}
use Rattle.verdict_meaning.specs.Systems.{callees}
use Rattle.verdict_meaning.specs.Programs.{system_in}
use Rattle.program_shapes.specs.Tables.{GroupTable, IsGroupTable}
use Rattle.program_shapes.proofs.Sums.{table_read}
use Rattle.program_shapes.proofs.shapes.ProgramShapesShapes.sites.Goals as goal

pub overflow_cast-result : goal.overflow_cast-result
overflow_cast-result c =
    let p = c.args.self.now.program.now in
    let t : IsGroupTable (system_in p) c.args.group c.index.result.now = table_read (system_in p) c.args.self.now.groups.items c.args.group c.index.result.now c.args.self.now.tables.groups c.requires c.index.ensures in
    let few = t.few in
    let same = ap (λ (x : GroupTable). length x.sites) c.behind-self.view_is in
    let len = c.len.ensures in
    omega (arith, c.behind-self.inside.sites.ok.0)

pub returns : goal.returns
returns c =
    let p = c.args.self.now.program.now in
    let t : IsGroupTable (system_in p) c.args.group c.index.result.now = table_read (system_in p) c.args.self.now.groups.items c.args.group c.index.result.now c.args.self.now.tables.groups c.requires c.index.ensures in
    let size = t.sites in
    let same = ap (λ (x : GroupTable). length x.sites) c.behind-self.view_is in
    let len = c.len.ensures in
    omega (arith, c.behind-self.inside.sites.ok.0)
