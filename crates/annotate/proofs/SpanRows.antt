-- The spans gathered along a tree are those of its nodes.
use Rattle.std.proofs.Common.{◌≡◌, ℕ, ◌+◌, ◌<◌, ◌++◌, ◌∷◌, [], List, length, get_or, drop, map, refl, sym, ap, ◌∙◌, add-one, drop-cons, append_assoc, append-nil}
use Rattle.std.proofs.lemmas.List.{map-append}
use Rattle.c_tree.specs.declared.position.Span.{Span}
use Rattle.c_tree.specs.Plain.{Expr, num, text, null, name, call, new, new_of, arrow, index, not_of, neg, binary, Exprs, no_exprs, expr, Stmt, block, local, local_as, assign, do_call, free, when, when_else, while, for, break, continue, return, return_of, nothing, Stmts, no_stmts, stmt}
use Rattle.c_tree.specs.Nodes.{Node, of_expr, of_stmt, span_of, nodes, nodes_of, stmt_nodes, stmts_nodes}
use Rattle.c_tree.specs.View.{expr_view, exprs_view, stmt_view, stmts_view}
use Rattle.c_tree.specs.declared.tree.Expr as code
use Rattle.c_tree.specs.declared.tree.Stmt as code_stmt
use Rattle.annotate.specs.Spans.{with_expr, with_exprs, with_stmt, with_stmts, node_spans}

pub with_exprs_at : (es : List code.Expr) (i : ℕ) (d : code.Expr) (ss : List Span) → i < length es
    → with_exprs (exprs_view (drop i es)) ss ≡ with_exprs (exprs_view (drop (i + 1) es)) (with_expr (expr_view (get_or es i d)) ss)
with_exprs_at es i d ss h = rw (add-one i, drop-cons es i d h) refl

pub with_stmts_at : (ts : List code_stmt.Stmt) (i : ℕ) (d : code_stmt.Stmt) (ss : List Span) → i < length ts
    → with_stmts (stmts_view (drop i ts)) ss ≡ with_stmts (stmts_view (drop (i + 1) ts)) (with_stmt (stmt_view (get_or ts i d)) ss)
with_stmts_at ts i d ss h = rw (add-one i, drop-cons ts i d h) refl

-- a walk adds the spans of these nodes
abbrev Adds : (List Span → List Span) → List Node → Type 0
Adds f ns = (ss : List Span) → f ss ≡ ss ++ map span_of ns

-- one walk after another
then : (f g : List Span → List Span) (a b : List Node) → Adds f a → Adds g b → Adds (λ ss. g (f ss)) (a ++ b)
then f g a b p q ss =
    q (f ss) ∙ ap (λ r. r ++ map span_of b) (p ss) ∙ append_assoc ss (map span_of a) (map span_of b) ∙ ap (λ r. ss ++ r) (sym (map-append span_of a b))

-- a walk after a node
after : (f : List Span → List Span) (a : List Node) → Adds f a → (n : Node) (ss : List Span) → f (ss ++ span_of n ∷ []) ≡ ss ++ map span_of (n ∷ a)
after f a p n ss = p (ss ++ span_of n ∷ []) ∙ append_assoc ss (span_of n ∷ []) (map span_of a)

mutual
  expr_adds : (e : Expr) → Adds (with_expr e) (nodes e)
  expr_adds (num at z) ss = refl
  expr_adds (text at b) ss = refl
  expr_adds (null at) ss = refl
  expr_adds (name at x) ss = refl
  expr_adds (call at f es) ss = after (with_exprs es) (nodes_of es) (exprs_add es) (of_expr (call at f es)) ss
  expr_adds (new at n) ss = refl
  expr_adds (new_of at n e) ss = after (with_expr e) (nodes e) (expr_adds e) (of_expr (new_of at n e)) ss
  expr_adds (arrow at b f) ss = after (with_expr b) (nodes b) (expr_adds b) (of_expr (arrow at b f)) ss
  expr_adds (index at b i) ss = after (λ r. with_expr i (with_expr b r)) (nodes b ++ nodes i) (then (with_expr b) (with_expr i) (nodes b) (nodes i) (expr_adds b) (expr_adds i)) (of_expr (index at b i)) ss
  expr_adds (not_of at e) ss = after (with_expr e) (nodes e) (expr_adds e) (of_expr (not_of at e)) ss
  expr_adds (neg at e) ss = after (with_expr e) (nodes e) (expr_adds e) (of_expr (neg at e)) ss
  expr_adds (binary at op a b) ss = after (λ r. with_expr b (with_expr a r)) (nodes a ++ nodes b) (then (with_expr a) (with_expr b) (nodes a) (nodes b) (expr_adds a) (expr_adds b)) (of_expr (binary at op a b)) ss

  exprs_add : (es : Exprs) → Adds (with_exprs es) (nodes_of es)
  exprs_add no_exprs ss = sym (append-nil ss)
  exprs_add (expr e es) ss = then (with_expr e) (with_exprs es) (nodes e) (nodes_of es) (expr_adds e) (exprs_add es) ss

mutual
  stmt_adds : (t : Stmt) → Adds (with_stmt t) (stmt_nodes t)
  stmt_adds (block at ts) ss = after (with_stmts ts) (stmts_nodes ts) (stmts_add ts) (of_stmt (block at ts)) ss
  stmt_adds (local at x t) ss = refl
  stmt_adds (local_as at x t e) ss = after (with_expr e) (nodes e) (expr_adds e) (of_stmt (local_as at x t e)) ss
  stmt_adds (assign at a b) ss = after (λ r. with_expr b (with_expr a r)) (nodes a ++ nodes b) (then (with_expr a) (with_expr b) (nodes a) (nodes b) (expr_adds a) (expr_adds b)) (of_stmt (assign at a b)) ss
  stmt_adds (do_call at e) ss = after (with_expr e) (nodes e) (expr_adds e) (of_stmt (do_call at e)) ss
  stmt_adds (free at e) ss = after (with_expr e) (nodes e) (expr_adds e) (of_stmt (free at e)) ss
  stmt_adds (when at c t) ss = after (λ r. with_stmt t (with_expr c r)) (nodes c ++ stmt_nodes t) (then (with_expr c) (with_stmt t) (nodes c) (stmt_nodes t) (expr_adds c) (stmt_adds t)) (of_stmt (when at c t)) ss
  stmt_adds (when_else at c t u) ss =
      after (λ r. with_stmt u (with_stmt t (with_expr c r))) (nodes c ++ stmt_nodes t ++ stmt_nodes u)
      (then (λ r. with_stmt t (with_expr c r)) (with_stmt u) (nodes c ++ stmt_nodes t) (stmt_nodes u)
      (then (with_expr c) (with_stmt t) (nodes c) (stmt_nodes t) (expr_adds c) (stmt_adds t)) (stmt_adds u)) (of_stmt (when_else at c t u)) ss
  stmt_adds (while at c t) ss = after (λ r. with_stmt t (with_expr c r)) (nodes c ++ stmt_nodes t) (then (with_expr c) (with_stmt t) (nodes c) (stmt_nodes t) (expr_adds c) (stmt_adds t)) (of_stmt (while at c t)) ss
  stmt_adds (for at init c step t) ss =
      after (λ r. with_stmt t (with_stmts step (with_exprs c (with_stmts init r)))) (stmts_nodes init ++ nodes_of c ++ stmts_nodes step ++ stmt_nodes t)
      (then (λ r. with_stmts step (with_exprs c (with_stmts init r))) (with_stmt t) (stmts_nodes init ++ nodes_of c ++ stmts_nodes step) (stmt_nodes t)
      (then (λ r. with_exprs c (with_stmts init r)) (with_stmts step) (stmts_nodes init ++ nodes_of c) (stmts_nodes step)
      (then (with_stmts init) (with_exprs c) (stmts_nodes init) (nodes_of c) (stmts_add init) (exprs_add c)) (stmts_add step)) (stmt_adds t)) (of_stmt (for at init c step t)) ss
  stmt_adds (break at) ss = refl
  stmt_adds (continue at) ss = refl
  stmt_adds (return at) ss = refl
  stmt_adds (return_of at e) ss = after (with_expr e) (nodes e) (expr_adds e) (of_stmt (return_of at e)) ss
  stmt_adds (nothing at) ss = refl

  stmts_add : (ts : Stmts) → Adds (with_stmts ts) (stmts_nodes ts)
  stmts_add no_stmts ss = sym (append-nil ss)
  stmts_add (stmt t ts) ss = then (with_stmt t) (with_stmts ts) (stmt_nodes t) (stmts_nodes ts) (stmt_adds t) (stmts_add ts) ss

pub gathered : (t : Stmt) → with_stmt t [] ≡ node_spans t
gathered t = stmt_adds t []
