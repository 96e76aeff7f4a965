use Rattle.std.proofs.Common.{◌≡◌, ◌≢◌, ◌<◌, ◌≤◌, length, ap, sym, ◌∙◌, arith}
use Rattle.verdict_meaning.specs.Systems.{root}
use Rattle.verdict_meaning.specs.Programs.{system_in}
use Rattle.unit_answers.proofs.Rows.{root_rows}
use Rattle.unit_refutation.proofs.TableLemmas.{group_rows}
use Rattle.unit_refutation.proofs.program.ProgramTablesTables.table.Goals as goal

pub returns-then-group-top : goal.returns-then-group-top
returns-then-group-top c =
    let p = c.args.self.now.program.now in
    root_rows p.graph p.facts p.groups c.args.self.now.scope.now c.args.group (c.if-group-top.true ∙ c.args.self.now.is_top)

pub group_clauses-requires : goal.group_clauses-requires
group_clauses-requires c =
    let is = c.args.self.now.is_top in
    let ne = c.if-group-top.false in
    omega (arith, is, ne)

pub returns : goal.returns
returns c =
    let p = c.args.self.now.program.now in
    c.in_ok-table.ensures ∙ group_rows p.graph p.facts p.groups c.args.self.now.scope.now c.args.group (λ e. c.if-group-top.false (e ∙ sym c.args.self.now.is_top))
