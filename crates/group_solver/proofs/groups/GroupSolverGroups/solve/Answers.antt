use Rattle.transfer_rules.specs.Names.{in_scope}
use Rattle.verdict_meaning.specs.Programs.{system_in}
use Rattle.group_solver.specs.Rows.{rows_in}
use Rattle.group_solver.proofs.Solved.{lines_over, given_over}
use Rattle.group_solver.proofs.Tables.{solved_for}
use Rattle.group_solver.proofs.groups.GroupSolverGroups.solve.Goals as goal

pub solve-requires-clause-once : goal.solve-requires-clause-once
solve-requires-clause-once c = c.requires.ledger.once

pub solve-requires-clause-small : goal.solve-requires-clause-small
solve-requires-clause-small c = c.requires.ledger.small

pub solve-requires-clause-over : goal.solve-requires-clause-over
solve-requires-clause-over c =
    let s = c.args.self.now in
    lines_over (system_in s.shapes.program.now) (in_scope s.scope.now) c.args.group c.count-vars.result c.args.ledger.now c.requires.ledger c.count-vars.ensures.count

pub solve-requires-clause-few : goal.solve-requires-clause-few
solve-requires-clause-few c = c.count-vars.ensures.small

pub solve-requires-clause-within : goal.solve-requires-clause-within
solve-requires-clause-within c =
    let s = c.args.self.now in
    given_over (system_in s.shapes.program.now) c.args.group c.count-vars.result c.args.given.now c.requires.given c.count-vars.ensures.count

pub solve-requires-clause-consistent : goal.solve-requires-clause-consistent
solve-requires-clause-consistent c = c.requires.given.apart

pub returns : goal.returns
returns c =
    let s = c.args.self.now in
    let p = s.shapes.program.now in
    c.in_ok-outcome.ensures (system_in p) (in_scope s.scope.now)
    (solved_for p s.scope.now c.args.group c.count-vars.result (rows_in c.in_ok-table.table) c.args.ledger.now (c.names_are_apart.ensures p.graph p.facts) c.requires.group c.count-vars.ensures.count c.in_ok-table.ensures c.requires.ledger)
