use Rattle.std.proofs.Common.{◌≡◌, length, get_or, ap, ◌∙◌, arith}
use Rattle.verdict_meaning.specs.Programs.{system_in}
use Rattle.program_shapes.specs.Tables.{GroupTable, IsGroupTable}
use Rattle.program_shapes.proofs.Sums.{table_read, site_read}
use Rattle.program_shapes.proofs.shapes.ProgramShapesShapes.before_site.Goals as goal

pub index-requires-2 : goal.index-requires-2
index-requires-2 c =
    let p = c.args.self.now.program.now in
    let t : IsGroupTable (system_in p) c.args.group c.index.result.now = table_read (system_in p) c.args.self.now.groups.items c.args.group c.index.result.now c.args.self.now.tables.groups c.requires.group c.index.ensures in
    let lt = c.requires.site in
    let size = t.sites in
    let same = ap (λ (x : GroupTable). length x.sites) c.behind-self.view_is in
    omega (arith, c.behind-self.inside.sites.ok.0)

pub returns : goal.returns
returns c =
    let p = c.args.self.now.program.now in
    let t : IsGroupTable (system_in p) c.args.group c.index.result.now = table_read (system_in p) c.args.self.now.groups.items c.args.group c.index.result.now c.args.self.now.tables.groups c.requires.group c.index.ensures in
    (site_read (system_in p) c.args.group c.args.site c.index.result.now c.index-2.result.now t c.requires.site
    (c.index-2.ensures ∙ ap (λ (x : GroupTable). get_or x.sites c.args.site c.index-2.result.now) c.behind-self.view_is)).before
