use Rattle.std.proofs.Common.{◌≡◌, ◌<◌, suc, length, sym, refl, ap, ◌∙◌, None, arith}
use Rattle.std.specs.Prelude.{codes}
use Rattle.c_tree.specs.Plain.{no_stmts}
use Rattle.c_tree.specs.View.{stmts_view}
use Rattle.c_grammar.specs.Stmts.{joined}
use Rattle.c_grammar.specs.Reading.{after_mark}
use Rattle.c_grammar.specs.ReadStmts.{read_stmt, body}
use Rattle.c_parser.specs.StmtViews.{stmts_row, chunk_row}
use Rattle.c_parser.proofs.Stages.{refused}
use Rattle.c_parser.proofs.StatementLoops.{body_more, body_refused, body_end, chunk_shorter, prepended_none, some_of, none_of}
use Rattle.c_parser.proofs.Paths.{stmt_zero, stmt_below, enclosed_shallow}
use Rattle.c_parser.proofs.statements.+statement.Goals as goal

pub stmt-returns-then-limit-eq0-clause-read : goal.stmt-returns-then-limit-eq0-clause-read
stmt-returns-then-limit-eq0-clause-read t c = rw c.if-limit-eq0.true (stmt_zero c.args.tokens.now)

pub stmt-returns-clause-read : goal.stmt-returns-clause-read
stmt-returns-clause-read t c =
    let some : 0 < c.args.limit = omega (arith, c.if-limit-eq0.false) in
    rw (stmt_below c.args.limit c.args.tokens.now some) c.stmt_over.ensures.read

pub when-returns-then-limit-lt2-clause-read : goal.when-returns-then-limit-lt2-clause-read
when-returns-then-limit-lt2-clause-read t c = rw (enclosed_shallow c.args.limit c.args.tokens.now c.if-limit-lt2.true) refl

pub while_loop-returns-then-limit-lt2-clause-read : goal.while_loop-returns-then-limit-lt2-clause-read
while_loop-returns-then-limit-lt2-clause-read t c = rw (enclosed_shallow c.args.limit c.args.tokens.now c.if-limit-lt2.true) refl

pub stmts-loop-parser-smaller : goal.stmts-loop-parser-smaller
stmts-loop-parser-smaller t c = chunk_shorter c.args.limit c.loop-parser.rest.now (chunk_row c.in_ok-row.row) c.in_ok-row.ensures.read

pub stmts-loop-parser-preserved : goal.stmts-loop-parser-preserved
stmts-loop-parser-preserved t c =
    let inv = c.loop-parser.invariant.read in
    let r = chunk_row c.in_ok-row.row in
    let read = c.in_ok-row.ensures.read in
    let less : length r.rest < length c.loop-parser.rest.now = chunk_shorter c.args.limit c.loop-parser.rest.now r read in
    let going : after_mark (codes "}") c.loop-parser.rest.now ≡ None = none_of (after_mark (codes "}") c.loop-parser.rest.now) (sym c.ends_block.ensures ∙ c.loop-parser-test.true) in
    let next = body_more inv.0 (read_stmt c.args.limit) c.args.limit (stmts_view c.loop-parser.items) c.loop-parser.depth c.loop-parser.rest.now r inv.1 less going read in
    let shown : stmts_view c.put.new.items ≡ joined (stmts_view c.loop-parser.items) r.tree = c.in_ok-put.ensures in
    record {
      within = rw c.max-depth.ensures (omega (arith, c.in_ok-row.ensures.within));
      read = (next.0, next.1, rw (shown, c.max-depth.ensures) (inv.2 ∙ next.2));
    }

pub stmts-loop-parser-init : goal.stmts-loop-parser-init
stmts-loop-parser-init t c =
    let ts = c.args.tokens.now in
    let shown : stmts_view c.new-items.result ≡ no_stmts = ap stmts_view c.new-items.ensures in
    record {
      within = omega arith;
      read = (suc (length ts), omega arith, rw shown (sym (prepended_none (body (suc (length ts)) (read_stmt c.args.limit) c.args.limit ts))));
    }

pub stmts-returns-in_err-row-clause-read : goal.stmts-returns-in_err-row-clause-read
stmts-returns-in_err-row-clause-read t c =
    let inv = c.loop-parser.invariant.read in
    let rest = c.loop-parser.rest.now in
    let going : after_mark (codes "}") rest ≡ None = none_of (after_mark (codes "}") rest) (sym c.ends_block.ensures ∙ c.loop-parser-test.true) in
    refused stmts_row _ _ _ _ c.from_residual.ensures.1 c.in_err-row.ensures.read
    (λ none. inv.2 ∙ body_refused inv.0 (read_stmt c.args.limit) c.args.limit (stmts_view c.loop-parser.items) c.loop-parser.depth rest going none)

pub stmts-returns-clause-read : goal.stmts-returns-clause-read
stmts-returns-clause-read t c =
    let inv = c.loop-parser.invariant.read in
    let rest = c.loop-parser.rest.now in
    let end = some_of (after_mark (codes "}") rest) (sym c.ends_block.ensures ∙ c.loop-parser-test.false) in
    inv.2 ∙ body_end inv.0 (read_stmt c.args.limit) c.args.limit (stmts_view c.loop-parser.items) c.loop-parser.depth rest end.0 (omega (arith, inv.1)) end.1
