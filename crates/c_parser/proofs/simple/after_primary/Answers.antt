use Rattle.std.proofs.Common.{◌≡◌, ℕ, sym, ◌∙◌, subst, add-one, true, false}
use Rattle.c_tree.specs.View.{expr_view}
use Rattle.c_grammar.specs.ReadExprs.{stage}
use Rattle.c_grammar.specs.ReadStmts.{from_target}
use Rattle.c_parser.specs.Views.{expr_part, Gives}
use Rattle.c_parser.specs.StmtViews.{stmt_part, is_variable}
use Rattle.c_parser.specs.Below.{begins_step}
use Rattle.c_parser.proofs.Paths.{from_steps, from_variable}
use Rattle.c_parser.proofs.simple.after_primary.Goals as goal

pub returns-then-begins_step : goal.returns-then-begins_step
returns-then-begins_step c =
    let begins = sym c.begins_step.ensures ∙ c.if-begins_step.true in
    let P : ℕ → Type 0 = λ n. Gives stmt_part c.after_target.result (from_target n c.args.named (expr_part c.in_ok-target.target)) in
    record {
      read = rw (from_steps c.args.limit (stage c.args.limit) c.args.named (expr_part c.args.first) begins, c.in_ok-target.ensures.read)
          (subst P (add-one c.args.limit) c.after_target.ensures.read);
    }

pub returns-then-is_variable : goal.returns-then-is_variable
returns-then-is_variable c =
    let ends : begins_step c.args.first.rest.now ≡ false = sym c.begins_step.ensures ∙ c.if-begins_step.false in
    let is : is_variable (expr_view c.args.first.tree) ≡ true = cc in
    let named : c.args.named ≡ true = cc in
    let P : ℕ → Type 0 = λ n. Gives stmt_part c.after_target-then-is_variable.result (from_target n true (expr_part c.args.first)) in
    record {
      read = rw (named, from_variable c.args.limit (stage c.args.limit) (expr_part c.args.first) ends is)
          (subst P (add-one c.args.limit) c.after_target-then-is_variable.ensures.read);
    }
