-- In the tree of a program each for statement has at most one condition.
use Rattle.std.proofs.Common.{◌≡◌, ℕ, List, [], ◌∷◌, map, Option, Some, None, option_map, slice_get, subst, sym, ◌∙◌}
use Rattle.std.proofs.lemmas.Option.{slice_get-map, same_Some}
use Rattle.c_tree.specs.declared.position.Span.{Span}
use Rattle.c_tree.specs.declared.tree.Expr as code_expr
use Rattle.c_tree.specs.declared.tree.Stmt as code_stmt
use Rattle.c_tree.specs.declared.tree.StmtForm as code_form
use Rattle.c_tree.specs.declared.tree.StmtForm.TheOpen.{StmtForm-F, Stmt-F}
use Rattle.c_tree.specs.declared.tree.ProcItem.{ProcItem}
use Rattle.c_tree.specs.declared.tree.Tree as code_tree
use Rattle.c_tree.specs.Plain.{Stmt, Procedure}
use Rattle.c_tree.specs.View.{At, stmts_of, cond_view, stmt_form_step, stmt_step, stmt_view, proc_view, tree_view}
use Rattle.c_types.proofs.NodesRows.{OneCondition, OneConditionEach, AtMostOne}

abbrev FormHasOne : code_form.StmtForm → Type 0
FormHasOne f = (at : Span) → OneCondition (code_form.fold-StmtForm (At Stmt) Stmt stmt_form_step stmt_step f at)

abbrev StmtHasOne : code_stmt.Stmt → Type 0
StmtHasOne s = OneCondition (stmt_view s)

abbrev KnownForm : Type 0
KnownForm = (f : code_form.StmtForm) × FormHasOne f

abbrev KnownStmt : Type 0
KnownStmt = (s : code_stmt.Stmt) × StmtHasOne s

each_has_one : (ss : List KnownStmt) → OneConditionEach (stmts_of (map stmt_view (map (λ e. e.0) ss)))
each_has_one [] = tt
each_has_one (e ∷ ss) = (e.1, each_has_one ss)

condition_is_one : (o : Option code_expr.Expr) → AtMostOne (cond_view o)
condition_is_one None = tt
condition_is_one (Some e) = tt

abbrev forms : StmtForm-F KnownForm KnownStmt → StmtForm-F code_form.StmtForm code_stmt.Stmt
forms y = code_form.map-StmtForm KnownForm KnownStmt code_form.StmtForm code_stmt.Stmt (λ e. e.0) (λ e. e.0) y

abbrev views : StmtForm-F code_form.StmtForm code_stmt.Stmt → StmtForm-F (At Stmt) Stmt
views x = code_form.map-StmtForm code_form.StmtForm code_stmt.Stmt (At Stmt) Stmt (code_form.fold-StmtForm (At Stmt) Stmt stmt_form_step stmt_step) stmt_view x

form_has_one : (y : StmtForm-F KnownForm KnownStmt) (at : Span) → OneCondition (stmt_form_step (views (forms y)) at)
form_has_one (StmtForm-F.Block ss) at = each_has_one ss
form_has_one (StmtForm-F.Local x t None) at = tt
form_has_one (StmtForm-F.Local x t (Some e)) at = tt
form_has_one (StmtForm-F.Assign a e) at = tt
form_has_one (StmtForm-F.Do e) at = tt
form_has_one (StmtForm-F.Free e) at = tt
form_has_one (StmtForm-F.If c s None) at = s.1
form_has_one (StmtForm-F.If c s (Some t)) at = (s.1, t.1)
form_has_one (StmtForm-F.While c s) at = s.1
form_has_one (StmtForm-F.For init c None s) at = (each_has_one init, condition_is_one c, tt, s.1)
form_has_one (StmtForm-F.For init c (Some t) s) at = (each_has_one init, condition_is_one c, (t.1, tt), s.1)
form_has_one StmtForm-F.Break at = tt
form_has_one StmtForm-F.Continue at = tt
form_has_one (StmtForm-F.Return None) at = tt
form_has_one (StmtForm-F.Return (Some e)) at = tt
form_has_one StmtForm-F.Nothing at = tt

pub view_conditions : (s : code_stmt.Stmt) → OneCondition (stmt_view s)
view_conditions = code_stmt.ind-Stmt FormHasOne StmtHasOne
    (λ x y is at. subst (λ v. OneCondition (v at)) (sym (code_form.fold-roll-StmtForm (At Stmt) Stmt stmt_form_step stmt_step x))
    (subst (λ z. OneCondition (stmt_form_step (views z) at)) is (form_has_one y at)))
    (λ x y is. subst OneCondition (sym (code_stmt.fold-roll-Stmt (At Stmt) Stmt stmt_form_step stmt_step x))
    (subst (λ (z : Stmt-F code_form.StmtForm code_stmt.Stmt). OneCondition (code_form.fold-StmtForm (At Stmt) Stmt stmt_form_step stmt_step z.form z.at)) is (y.form.1 y.at)))

viewed_body : (o : Option code_stmt.Stmt) (st : Stmt) → option_map stmt_view o ≡ Some st → OneCondition st
viewed_body None st e = cc
viewed_body (Some s) st e = subst OneCondition (same_Some (stmt_view s) st e) (view_conditions s)

viewed_proc : (o : Option ProcItem) (q : Procedure) (st : Stmt) → option_map proc_view o ≡ Some q → q.body ≡ Some st → OneCondition st
viewed_proc None q st e is = cc
viewed_proc (Some p) q st e is = viewed_body p.body st (subst (λ (x : Procedure). x.body ≡ Some st) (sym (same_Some (proc_view p) q e)) is)

-- the body of each procedure
pub tree_conditions : (t : code_tree.Tree) (k : ℕ) (q : Procedure) (st : Stmt) → slice_get (tree_view t).procs k ≡ Some q → q.body ≡ Some st → OneCondition st
tree_conditions t k q st e is = viewed_proc (slice_get t.procs k) q st (sym (slice_get-map proc_view t.procs k) ∙ e) is
