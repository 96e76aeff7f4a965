-- Where the nodes of a body stand in the source.
use Rattle.std.specs.Prelude.{ℕ, List, [], ◌∷◌, ◌++◌, map}
use Rattle.c_tree.specs.declared.position.Span.{Span}
use Rattle.c_tree.specs.Plain.{Expr, num, text, null, name, call, new, new_of, arrow, index, not_of, neg, binary, Exprs, no_exprs, expr, Stmt, block, local, local_as, assign, do_call, free, when, when_else, while, for, break, continue, return, return_of, nothing, Stmts, no_stmts, stmt}
use Rattle.c_tree.specs.Nodes.{span_of, stmt_nodes}

-- the spans of a body's nodes, by their numbers
abbrev pub node_spans : Stmt → List Span
node_spans s = map span_of (stmt_nodes s)

-- The same gathered along a tree, as `proofs/SpanRows` shows

abbrev mutual
  pub with_expr : Expr → List Span → List Span
  with_expr (num at z) ss = ss ++ at ∷ []
  with_expr (text at b) ss = ss ++ at ∷ []
  with_expr (null at) ss = ss ++ at ∷ []
  with_expr (name at x) ss = ss ++ at ∷ []
  with_expr (call at f es) ss = with_exprs es (ss ++ at ∷ [])
  with_expr (new at n) ss = ss ++ at ∷ []
  with_expr (new_of at n e) ss = with_expr e (ss ++ at ∷ [])
  with_expr (arrow at b f) ss = with_expr b (ss ++ at ∷ [])
  with_expr (index at b i) ss = with_expr i (with_expr b (ss ++ at ∷ []))
  with_expr (not_of at e) ss = with_expr e (ss ++ at ∷ [])
  with_expr (neg at e) ss = with_expr e (ss ++ at ∷ [])
  with_expr (binary at op a b) ss = with_expr b (with_expr a (ss ++ at ∷ []))

  pub with_exprs : Exprs → List Span → List Span
  with_exprs no_exprs ss = ss
  with_exprs (expr e es) ss = with_exprs es (with_expr e ss)

abbrev mutual
  pub with_stmt : Stmt → List Span → List Span
  with_stmt (block at ts) ss = with_stmts ts (ss ++ at ∷ [])
  with_stmt (local at x t) ss = ss ++ at ∷ []
  with_stmt (local_as at x t e) ss = with_expr e (ss ++ at ∷ [])
  with_stmt (assign at a b) ss = with_expr b (with_expr a (ss ++ at ∷ []))
  with_stmt (do_call at e) ss = with_expr e (ss ++ at ∷ [])
  with_stmt (free at e) ss = with_expr e (ss ++ at ∷ [])
  with_stmt (when at c t) ss = with_stmt t (with_expr c (ss ++ at ∷ []))
  with_stmt (when_else at c t u) ss = with_stmt u (with_stmt t (with_expr c (ss ++ at ∷ [])))
  with_stmt (while at c t) ss = with_stmt t (with_expr c (ss ++ at ∷ []))
  with_stmt (for at init c step t) ss = with_stmt t (with_stmts step (with_exprs c (with_stmts init (ss ++ at ∷ []))))
  with_stmt (break at) ss = ss ++ at ∷ []
  with_stmt (continue at) ss = ss ++ at ∷ []
  with_stmt (return at) ss = ss ++ at ∷ []
  with_stmt (return_of at e) ss = with_expr e (ss ++ at ∷ [])
  with_stmt (nothing at) ss = ss ++ at ∷ []

  pub with_stmts : Stmts → List Span → List Span
  with_stmts no_stmts ss = ss
  with_stmts (stmt t ts) ss = with_stmts ts (with_stmt t ss)
