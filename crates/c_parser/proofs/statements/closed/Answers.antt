use Rattle.std.proofs.Common.{◌≡◌, ℕ, refl, subst, add-one, Some}
use Rattle.c_grammar.specs.ReadStmts.{read_simple}
use Rattle.c_parser.specs.StmtViews.{stmt_part}
use Rattle.c_parser.proofs.Stages.{refuses}
use Rattle.c_parser.proofs.statements.closed.Goals as goal

pub returns-in-Err-clause-read : goal.returns-in-Err-clause-read
returns-in-Err-clause-read c =
    let P : ℕ → Type 0 = λ n. read_simple n c.args.tokens.now ≡ Some (stmt_part c.in_ok-simple.simple) in
    let read = subst P (add-one c.args.limit) c.in_ok-simple.ensures.read in
    refuses c.in-Err.error _ _ (λ none. rw (read, none) refl) c.in-Err.ensures
