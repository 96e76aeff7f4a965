use Rattle.std.proofs.Common.{Bool, List, length, ap, ◌∙◌, arith}
use Rattle.zo_solver.specs.Clauses.{numbered}
use Rattle.group_solver.specs.Rows.{rows_in}
use Rattle.group_solver.proofs.Copied.{placed_read}
use Rattle.group_solver.proofs.Solved.{denied_is}
use Rattle.group_solver.proofs.solving.refute.Goals as goal

pub copy-requires-clause-begun : goal.copy-requires-clause-begun
copy-requires-clause-begun c = c.requires.ready _

pub returns-clause-denied : goal.returns-clause-denied
returns-clause-denied c given r =
    let value = c.deref.ensures.value in
    let size = c.in_ok-wanted.ensures.size in
    let many = ap length value in
    let all = c.in_ok-copy.ensures.all in
    denied_is c.copy.new.ledger.lines c.args.group c.index.result.now given r.clause
    (placed_read (rows_in c.args.table.now) c.args.group c.args.vars c.args.solver.now c.deref.result.now c.args.ledger.now c.copy.new.ledger c.copy.new.places.items c.in_ok-copy.ensures.copied c.args.number c.index.result.now r.clause
    c.requires.some (omega arith) c.index.ensures r.clause_at (ap (λ (ms : List Bool). numbered ms c.args.number) value ∙ c.in_ok-wanted.ensures.itself))
    r.negations
