use Rattle.std.proofs.Common.{ap, ◌∙◌}
use Rattle.std.proofs.lemmas.Result.{on_ok_weaker}
use Rattle.c_tree.specs.View.{stmts_view}
use Rattle.c_parser.proofs.StatementLoops.{view_both, view_one}
use Rattle.c_parser.proofs.statements.put.Goals as goal

pub returns-in-Locals : goal.returns-in-Locals
returns-in-Locals c = rw c.in-Locals.is (on_ok_weaker c.append.result (λ e. ap stmts_view e ∙ view_both c.args.items.now c.in-Locals.locals) c.append.ensures)

pub returns-in-One : goal.returns-in-One
returns-in-One c = rw c.in-One.is (on_ok_weaker c.push.result (λ e. ap stmts_view e ∙ view_one c.args.items.now c.in-One.stmt) c.push.ensures.ok)
