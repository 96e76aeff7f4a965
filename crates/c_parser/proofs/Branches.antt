-- What a tree with one or two branches is seen as.
use Rattle.std.proofs.Common.{◌≡◌, sym, ap, ◌∙◌, Some, None}
use Rattle.c_tree.specs.declared.position.Span.{Span}
use Rattle.c_tree.specs.declared.tree.Expr as code_expr
use Rattle.c_tree.specs.declared.tree.Stmt as code
use Rattle.c_tree.specs.declared.tree.StmtForm as forms
use Rattle.c_tree.specs.declared.tree.StmtForm.TheVariants as form
use Rattle.c_tree.specs.Plain.{Stmt, when, when_else}
use Rattle.c_tree.specs.View.{At, stmt_form_step, stmt_step, expr_view, stmt_view}

abbrev whole : Span → forms.StmtForm → code.Stmt
whole at f = code.roll-Stmt (record { at = at; form = f })

pub when_view : (at : Span) (c : code_expr.Expr) (s : code.Stmt) → stmt_view (whole at (form.If c s None)) ≡ when at (expr_view c) (stmt_view s)
when_view at c s = ap (λ (f : forms.StmtForm). stmt_view (whole at f)) (sym (form.rolls-If c s None))
    ∙ code.fold-roll-Stmt (At Stmt) Stmt stmt_form_step stmt_step (record { at = at; form = forms.roll-StmtForm (forms.StmtForm-F.If c s None) })
    ∙ ap (λ (h : Span → Stmt). h at) (forms.fold-roll-StmtForm (At Stmt) Stmt stmt_form_step stmt_step (forms.StmtForm-F.If c s None))

pub when_else_view : (at : Span) (c : code_expr.Expr) (s o : code.Stmt)
    → stmt_view (whole at (form.If c s (Some o))) ≡ when_else at (expr_view c) (stmt_view s) (stmt_view o)
when_else_view at c s o = ap (λ (f : forms.StmtForm). stmt_view (whole at f)) (sym (form.rolls-If c s (Some o)))
    ∙ code.fold-roll-Stmt (At Stmt) Stmt stmt_form_step stmt_step (record { at = at; form = forms.roll-StmtForm (forms.StmtForm-F.If c s (Some o)) })
    ∙ ap (λ (h : Span → Stmt). h at) (forms.fold-roll-StmtForm (At Stmt) Stmt stmt_form_step stmt_step (forms.StmtForm-F.If c s (Some o)))
