use Rattle.std.proofs.Common.{◌≡◌, ◌≤◌, ◌<◌, ◌+◌, ◌*◌, ℕ, suc, length}
use Rattle.std.specs.Prelude.{option_and_then}
use Rattle.c_tree.specs.View.{stmts_view}
use Rattle.c_grammar.specs.ReadStmts.{read_stmt, body}
use Rattle.c_parser.proofs.StatementLoops.{prepended}
use Rattle.c_parser.proofs.statements.+statement.Given as goal

abbrev pub decreases-stmt : goal.decreases-stmt
decreases-stmt l = 8 * l.limit

abbrev pub decreases-stmt_over : goal.decreases-stmt_over
decreases-stmt_over l = 8 * l.limit + 5

abbrev pub decreases-block_over : goal.decreases-block_over
decreases-block_over l = 8 * l.limit + 4

abbrev pub decreases-stmts : goal.decreases-stmts
decreases-stmts l = 8 * l.limit + 3

abbrev pub decreases-next_chunk : goal.decreases-next_chunk
decreases-next_chunk l = 8 * l.limit + 1

abbrev pub decreases-when : goal.decreases-when
decreases-when l = 8 * l.limit + 2

abbrev pub decreases-alternative : goal.decreases-alternative
decreases-alternative l = 8 * l.limit + 1

abbrev pub decreases-while_loop : goal.decreases-while_loop
decreases-while_loop l = 8 * l.limit + 1

abbrev pub decreases-for_loop : goal.decreases-for_loop
decreases-for_loop l = 8 * l.limit + 1

abbrev pub invariant-stmts-loop-parser : goal.invariant-stmts-loop-parser
invariant-stmts-loop-parser l = record {
  within : l.depth ≤ l.limit;
  read : (fuel : ℕ) × (length l.rest < fuel)
      × (body (suc (length l.tokens)) (read_stmt l.limit) l.limit l.tokens
      ≡ option_and_then (prepended (stmts_view l.items) l.depth) (body fuel (read_stmt l.limit) l.limit l.rest));
}

abbrev pub decreases-stmts-loop-parser : goal.decreases-stmts-loop-parser
decreases-stmts-loop-parser l = length l.rest
