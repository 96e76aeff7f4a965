-- The strings gathered along a tree are those of its nodes.
use Rattle.std.proofs.Common.{◌≡◌, ℕ, ◌+◌, ◌<◌, ◌++◌, ◌∷◌, [], List, length, get_or, drop, refl, sym, ap, ap₂, ◌∙◌, add-one, drop-cons, append-nil, append_assoc, length-append}
use Rattle.c_tree.specs.Plain.{Expr, num, text, null, name, call, new, new_of, arrow, index, not_of, neg, binary, Exprs, no_exprs, expr, Stmt, block, local, local_as, assign, do_call, free, when, when_else, while, for, break, continue, return, return_of, nothing, Stmts, no_stmts, stmt}
use Rattle.c_tree.specs.Nodes.{Node, of_expr, nodes, nodes_of, stmt_nodes, stmts_nodes}
use Rattle.c_tree.specs.View.{expr_view, exprs_view, stmt_view, stmts_view}
use Rattle.c_tree.specs.declared.tree.Expr as code
use Rattle.c_tree.specs.declared.tree.Stmt as code_stmt
use Rattle.flow_graph.specs.Strings.{Seen, noted, seen_text, see, see_of, see_stmt, see_stmts, string_at, strings, string_numbers}

pub see_of_at : (es : List code.Expr) (i : ℕ) (d : code.Expr) (s : Seen) → i < length es
    → see_of (exprs_view (drop i es)) s ≡ see_of (exprs_view (drop (i + 1) es)) (see (expr_view (get_or es i d)) s)
see_of_at es i d s h = rw (add-one i, drop-cons es i d h) refl

pub see_stmts_at : (ss : List code_stmt.Stmt) (i : ℕ) (d : code_stmt.Stmt) (s : Seen) → i < length ss
    → see_stmts (stmts_view (drop i ss)) s ≡ see_stmts (stmts_view (drop (i + 1) ss)) (see_stmt (stmt_view (get_or ss i d)) s)
see_stmts_at ss i d s h = rw (add-one i, drop-cons ss i d h) refl

-- The same of each node in turn

abbrev seen_node : Node → Seen → Seen
seen_node (of_expr (text at b)) s = seen_text b s
seen_node _ s = noted s

abbrev seen_along : List Node → Seen → Seen
seen_along [] s = s
seen_along (n ∷ ns) s = seen_along ns (seen_node n s)

along_append : (a b : List Node) (s : Seen) → seen_along (a ++ b) s ≡ seen_along b (seen_along a s)
along_append [] b s = refl
along_append (n ∷ a) b s = along_append a b (seen_node n s)

-- one walk after another
along_two : (a b : List Node) (f g : Seen → Seen) → ((s : Seen) → f s ≡ seen_along a s) → ((s : Seen) → g s ≡ seen_along b s)
    → (s : Seen) → g (f s) ≡ seen_along (a ++ b) s
along_two a b f g p q s = q (f s) ∙ ap (seen_along b) (p s) ∙ sym (along_append a b s)

mutual
  see_along : (e : Expr) (s : Seen) → see e s ≡ seen_along (nodes e) s
  see_along (num at z) s = refl
  see_along (text at b) s = refl
  see_along (null at) s = refl
  see_along (name at x) s = refl
  see_along (call at f es) s = see_of_along es (noted s)
  see_along (new at n) s = refl
  see_along (new_of at n e) s = see_along e (noted s)
  see_along (arrow at b f) s = see_along b (noted s)
  see_along (index at b i) s = along_two (nodes b) (nodes i) (see b) (see i) (see_along b) (see_along i) (noted s)
  see_along (not_of at e) s = see_along e (noted s)
  see_along (neg at e) s = see_along e (noted s)
  see_along (binary at op a b) s = along_two (nodes a) (nodes b) (see a) (see b) (see_along a) (see_along b) (noted s)

  see_of_along : (es : Exprs) (s : Seen) → see_of es s ≡ seen_along (nodes_of es) s
  see_of_along no_exprs s = refl
  see_of_along (expr e es) s = along_two (nodes e) (nodes_of es) (see e) (see_of es) (see_along e) (see_of_along es) s

mutual
  see_stmt_along : (t : Stmt) (s : Seen) → see_stmt t s ≡ seen_along (stmt_nodes t) s
  see_stmt_along (block at ss) s = see_stmts_along ss (noted s)
  see_stmt_along (local at x t) s = refl
  see_stmt_along (local_as at x t e) s = see_along e (noted s)
  see_stmt_along (assign at a b) s = along_two (nodes a) (nodes b) (see a) (see b) (see_along a) (see_along b) (noted s)
  see_stmt_along (do_call at e) s = see_along e (noted s)
  see_stmt_along (free at e) s = see_along e (noted s)
  see_stmt_along (when at c t) s = along_two (nodes c) (stmt_nodes t) (see c) (see_stmt t) (see_along c) (see_stmt_along t) (noted s)
  see_stmt_along (when_else at c t u) s =
      along_two (nodes c ++ stmt_nodes t) (stmt_nodes u) (λ r. see_stmt t (see c r)) (see_stmt u)
      (along_two (nodes c) (stmt_nodes t) (see c) (see_stmt t) (see_along c) (see_stmt_along t)) (see_stmt_along u) (noted s)
  see_stmt_along (while at c t) s = along_two (nodes c) (stmt_nodes t) (see c) (see_stmt t) (see_along c) (see_stmt_along t) (noted s)
  see_stmt_along (for at init c step t) s =
      along_two (stmts_nodes init ++ nodes_of c ++ stmts_nodes step) (stmt_nodes t) (λ r. see_stmts step (see_of c (see_stmts init r))) (see_stmt t)
      (along_two (stmts_nodes init ++ nodes_of c) (stmts_nodes step) (λ r. see_of c (see_stmts init r)) (see_stmts step)
      (along_two (stmts_nodes init) (nodes_of c) (see_stmts init) (see_of c) (see_stmts_along init) (see_of_along c)) (see_stmts_along step))
      (see_stmt_along t) (noted s)
  see_stmt_along (break at) s = refl
  see_stmt_along (continue at) s = refl
  see_stmt_along (return at) s = refl
  see_stmt_along (return_of at e) s = see_along e (noted s)
  see_stmt_along (nothing at) s = refl

  see_stmts_along : (ts : Stmts) (s : Seen) → see_stmts ts s ≡ seen_along (stmts_nodes ts) s
  see_stmts_along no_stmts s = refl
  see_stmts_along (stmt t ts) s = along_two (stmt_nodes t) (stmts_nodes ts) (see_stmt t) (see_stmts ts) (see_stmt_along t) (see_stmts_along ts) s

node_texts : (n : Node) (s : Seen) → (seen_node n s).texts ≡ s.texts ++ string_at n
node_texts (of_expr (text at b)) s = refl
node_texts _ s = sym (append-nil s.texts)

node_numbers : (n : Node) (s : Seen) → (seen_node n s).numbers ≡ s.numbers ++ length s.texts ∷ []
node_numbers (of_expr (text at b)) s = refl
node_numbers _ s = refl

texts_along : (ns : List Node) (s : Seen) → (seen_along ns s).texts ≡ s.texts ++ strings ns
texts_along [] s = sym (append-nil s.texts)
texts_along (n ∷ ns) s = texts_along ns (seen_node n s) ∙ ap (λ t. t ++ strings ns) (node_texts n s) ∙ append_assoc s.texts (string_at n) (strings ns)

numbers_along : (ns : List Node) (s : Seen) → (seen_along ns s).numbers ≡ s.numbers ++ string_numbers (length s.texts) ns
numbers_along [] s = sym (append-nil s.numbers)
numbers_along (n ∷ ns) s =
    numbers_along ns (seen_node n s) ∙ ap₂ (λ a b. a ++ string_numbers (length b) ns) (node_numbers n s) (node_texts n s)
    ∙ append_assoc s.numbers (length s.texts ∷ []) (string_numbers (length (s.texts ++ string_at n)) ns)
    ∙ ap (λ k. s.numbers ++ (length s.texts ∷ string_numbers k ns)) (length-append s.texts (string_at n))

pub texts_seen : (t : Stmt) (s : Seen) → (see_stmt t s).texts ≡ s.texts ++ strings (stmt_nodes t)
texts_seen t s = ap (λ (r : Seen). r.texts) (see_stmt_along t s) ∙ texts_along (stmt_nodes t) s

pub numbers_seen : (t : Stmt) (s : Seen) → s.numbers ≡ [] → (see_stmt t s).numbers ≡ string_numbers (length s.texts) (stmt_nodes t)
numbers_seen t s none =
    ap (λ (r : Seen). r.numbers) (see_stmt_along t s) ∙ numbers_along (stmt_nodes t) s ∙ ap (λ ns. ns ++ string_numbers (length s.texts) (stmt_nodes t)) none
