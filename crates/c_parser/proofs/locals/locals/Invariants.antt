use Rattle.std.proofs.Common.{◌≡◌, ◌≤◌, ℕ, length}
use Rattle.std.specs.Prelude.{option_and_then}
use Rattle.c_tree.specs.View.{stmts_view}
use Rattle.c_grammar.specs.ReadStmts.{some_locals, read_locals}
use Rattle.c_parser.proofs.StatementLoops.{prepended}
use Rattle.c_parser.proofs.locals.locals.Given as goal

abbrev pub invariant-loop-items : goal.invariant-loop-items
invariant-loop-items l = record {
  within : l.depth ≤ l.limit;
  read : (fuel : ℕ) × (length l.rest ≤ fuel)
      × (read_locals l.limit l.tokens ≡ option_and_then (prepended (stmts_view l.items) l.depth) (some_locals fuel l.limit l.base.tree l.rest));
}

abbrev pub decreases-loop-items : goal.decreases-loop-items
decreases-loop-items l = length l.rest
