use Rattle.std.proofs.Common.{◌<◌, List, length, sym, subst, arith}
use Rattle.transfer_rules.specs.Names.{NamedClause, in_scope}
use Rattle.verdict_meaning.specs.Programs.{system_in}
use Rattle.unit_answers.specs.Tables.{IsTableOf}
use Rattle.unit_answers.proofs.Rows.{tables_are}
use Rattle.plain_answers.proofs.program.ProgramClausesGroupClauses.clauses.Goals as goal

pub returns-clause-table : goal.returns-clause-table
returns-clause-table c =
    let p = c.args.self.now.shapes.program.now in
    let scope = c.args.self.now.scope.now in
    let low : c.args.group < length p.groups = c.requires in
    subst (λ (rs : List NamedClause). IsTableOf (system_in p) (in_scope scope) c.args.group rs) (sym c.in_ok-table.ensures)
    (tables_are p.graph p.facts p.groups scope (c.names_are_apart.ensures p.graph p.facts) c.args.group (omega arith))
