-- The definitions that a walk over expressions computes, read at an index.
use Rattle.std.proofs.Common.{◌≡◌, ℕ, zero, suc, Bool, true, false, ◌+◌, ◌<◌, List, [], ◌∷◌, ◌++◌, ◌||◌, Option, length, get_or, drop, refl, sym, ap, ◌∙◌, add-one, drop-cons, arith, append_assoc, length-append, length-drop, slice_get}
use Rattle.std.specs.Prelude.{slice_set, nat_lt}
use Rattle.std.proofs.Math.Seq.{set-append_seam}
use Rattle.std.proofs.lemmas.List.{drop-drop}
use Rattle.c_tree.specs.View.{expr_view, exprs_view, stmt_view, stmts_view}
use Rattle.c_tree.specs.declared.tree.Expr.{Expr}
use Rattle.c_tree.specs.declared.tree.Stmt.{Stmt}
use Rattle.c_types.specs.declared.kinds.SlotType.{SlotType}
use Rattle.c_types.specs.declared.infos.NodeInfo.{NodeInfo}
use Rattle.c_types.specs.declared.tables.Tables.{Tables}
use Rattle.c_types.specs.declared.scope.Scope.{Scope}
use Rattle.c_types.specs.Breaches.{soonest, sooner}
use Rattle.c_types.specs.Types.{wanted_for}
use Rattle.c_types.specs.Exprs.{operand_of, breaches, infos, misfits, is_misfit, args_breaches, args_infos, any_left}
use Rattle.c_types.specs.Stmts.{after, after_all, stmt_breaches, stmts_breaches, stmt_infos, stmts_infos}

pub slice_get-drop : {A : Type 0} (xs : List A) (i : ℕ) → slice_get (drop i xs) 0 ≡ slice_get xs i
slice_get-drop xs zero = refl
slice_get-drop [] (suc i) = refl
slice_get-drop (x ∷ xs) (suc i) = slice_get-drop xs i

pub misfits_at : (c : Tables) (s : Scope) (ks : List SlotType) (es : List Expr) (i : ℕ) (d : Expr) → i < length es
    → misfits c s (drop i ks) (exprs_view (drop i es))
    ≡ (is_misfit (slice_get ks i) (operand_of c s (expr_view (get_or es i d))) || misfits c s (drop (i + 1) ks) (exprs_view (drop (i + 1) es)))
misfits_at c s ks es i d h = rw (← drop-drop 1 i ks, ← slice_get-drop ks i, add-one i, drop-cons es i d h) refl

pub args_breaches_at : (c : Tables) (s : Scope) (ks : List SlotType) (es : List Expr) (i : ℕ) (d : Expr) → i < length es
    → args_breaches soonest c s (drop i ks) (exprs_view (drop i es))
    ≡ sooner (breaches soonest c s (wanted_for (slice_get ks i)) (expr_view (get_or es i d))) (args_breaches soonest c s (drop (i + 1) ks) (exprs_view (drop (i + 1) es)))
args_breaches_at c s ks es i d h = rw (← drop-drop 1 i ks, ← slice_get-drop ks i, add-one i, drop-cons es i d h) refl

pub args_infos_at : (c : Tables) (s : Scope) (ks : List SlotType) (es : List Expr) (i : ℕ) (d : Expr) → i < length es
    → args_infos c s (drop i ks) (exprs_view (drop i es))
    ≡ infos c s (wanted_for (slice_get ks i)) (expr_view (get_or es i d)) ++ args_infos c s (drop (i + 1) ks) (exprs_view (drop (i + 1) es))
args_infos_at c s ks es i d h = rw (← drop-drop 1 i ks, ← slice_get-drop ks i, add-one i, drop-cons es i d h) refl

-- a node noted before those below it, once it is known
pub set_noted : (old below : List NodeInfo) (blank info : NodeInfo)
    → slice_set ((old ++ blank ∷ []) ++ below) (length old) info ≡ old ++ info ∷ below
set_noted old below blank info = ap (λ xs. slice_set xs (length old) info) (append_assoc old (blank ∷ []) below) ∙ set-append_seam old blank below info

pub length_noted : (old below : List NodeInfo) (blank : NodeInfo) → length old < length ((old ++ blank ∷ []) ++ below)
length_noted old below blank = omega (arith, length-append (old ++ blank ∷ []) below, length-append old (blank ∷ []))

pub any_left-length : (ks : List SlotType) → any_left ks ≡ nat_lt 0 (length ks)
any_left-length [] = refl
any_left-length (k ∷ ks) = grind (arith)

pub any_left-drop : (ks : List SlotType) (n : ℕ) → any_left (drop n ks) ≡ nat_lt n (length ks)
any_left-drop ks n = any_left-length (drop n ks) ∙ grind (arith, length-drop n ks)

-- the same, at an item of the row
module _ (c : Tables) (s : Scope) (ks : List SlotType) (es : List Expr) (i : ℕ) (e : Expr) (within : i < length es) (is : e ≡ get_or es i e) where
  pub misfits_item : misfits c s (drop i ks) (exprs_view (drop i es))
      ≡ (is_misfit (slice_get ks i) (operand_of c s (expr_view e)) || misfits c s (drop (i + 1) ks) (exprs_view (drop (i + 1) es)))
  misfits_item = misfits_at c s ks es i e within ∙ ap (λ x. is_misfit (slice_get ks i) (operand_of c s (expr_view x)) || misfits c s (drop (i + 1) ks) (exprs_view (drop (i + 1) es))) (sym is)

  pub args_breaches_item : args_breaches soonest c s (drop i ks) (exprs_view (drop i es))
      ≡ sooner (breaches soonest c s (wanted_for (slice_get ks i)) (expr_view e)) (args_breaches soonest c s (drop (i + 1) ks) (exprs_view (drop (i + 1) es)))
  args_breaches_item = args_breaches_at c s ks es i e within ∙ ap (λ x. sooner (breaches soonest c s (wanted_for (slice_get ks i)) (expr_view x)) (args_breaches soonest c s (drop (i + 1) ks) (exprs_view (drop (i + 1) es)))) (sym is)

  pub args_infos_item : args_infos c s (drop i ks) (exprs_view (drop i es))
      ≡ infos c s (wanted_for (slice_get ks i)) (expr_view e) ++ args_infos c s (drop (i + 1) ks) (exprs_view (drop (i + 1) es))
  args_infos_item = args_infos_at c s ks es i e within ∙ ap (λ x. infos c s (wanted_for (slice_get ks i)) (expr_view x) ++ args_infos c s (drop (i + 1) ks) (exprs_view (drop (i + 1) es))) (sym is)

pub or_assoc : (a b c : Bool) → ((a || b) || c) ≡ (a || (b || c))
or_assoc true b c = refl
or_assoc false b c = refl

pub stmts_breaches_at : (c : Tables) (r : Option SlotType) (looped : Bool) (s : Scope) (sts : List Stmt) (i : ℕ) (d : Stmt) → i < length sts
    → stmts_breaches soonest c r looped s (stmts_view (drop i sts))
    ≡ sooner (stmt_breaches soonest c r looped s (stmt_view (get_or sts i d))) (stmts_breaches soonest c r looped (after c s (stmt_view (get_or sts i d))) (stmts_view (drop (i + 1) sts)))
stmts_breaches_at c r looped s sts i d h = rw (add-one i, drop-cons sts i d h) refl

pub after_all_at : (c : Tables) (s : Scope) (sts : List Stmt) (i : ℕ) (d : Stmt) → i < length sts
    → after_all c s (stmts_view (drop i sts)) ≡ after_all c (after c s (stmt_view (get_or sts i d))) (stmts_view (drop (i + 1) sts))
after_all_at c s sts i d h = rw (add-one i, drop-cons sts i d h) refl

pub stmts_infos_at : (c : Tables) (r : Option SlotType) (s : Scope) (sts : List Stmt) (i : ℕ) (d : Stmt) → i < length sts
    → stmts_infos c r s (stmts_view (drop i sts))
    ≡ stmt_infos c r s (stmt_view (get_or sts i d)) ++ stmts_infos c r (after c s (stmt_view (get_or sts i d))) (stmts_view (drop (i + 1) sts))
stmts_infos_at c r s sts i d h = rw (add-one i, drop-cons sts i d h) refl

-- the same, at an item of a row of statements
module _ (c : Tables) (s : Scope) (sts : List Stmt) (i : ℕ) (st : Stmt) (within : i < length sts) (is : st ≡ get_or sts i st) where
  pub stmts_breaches_item : (r : Option SlotType) (looped : Bool) → stmts_breaches soonest c r looped s (stmts_view (drop i sts))
      ≡ sooner (stmt_breaches soonest c r looped s (stmt_view st)) (stmts_breaches soonest c r looped (after c s (stmt_view st)) (stmts_view (drop (i + 1) sts)))
  stmts_breaches_item r looped = stmts_breaches_at c r looped s sts i st within ∙ ap (λ x. sooner (stmt_breaches soonest c r looped s (stmt_view x)) (stmts_breaches soonest c r looped (after c s (stmt_view x)) (stmts_view (drop (i + 1) sts)))) (sym is)

  pub after_all_item : after_all c s (stmts_view (drop i sts)) ≡ after_all c (after c s (stmt_view st)) (stmts_view (drop (i + 1) sts))
  after_all_item = after_all_at c s sts i st within ∙ ap (λ x. after_all c (after c s (stmt_view x)) (stmts_view (drop (i + 1) sts))) (sym is)

  pub stmts_infos_item : (r : Option SlotType) → stmts_infos c r s (stmts_view (drop i sts))
      ≡ stmt_infos c r s (stmt_view st) ++ stmts_infos c r (after c s (stmt_view st)) (stmts_view (drop (i + 1) sts))
  stmts_infos_item r = stmts_infos_at c r s sts i st within ∙ ap (λ x. stmt_infos c r s (stmt_view x) ++ stmts_infos c r (after c s (stmt_view x)) (stmts_view (drop (i + 1) sts))) (sym is)
