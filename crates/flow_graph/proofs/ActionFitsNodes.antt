-- Where the nodes of a part stand among those of a body, and how many there are.
use Rattle.std.proofs.Common.{◌≡◌, ℕ, zero, suc, ◌+◌, ◌<◌, List, [], ◌∷◌, ◌++◌, length, slice_get, refl, sym, ap, ◌∙◌, subst, arith, Some, zero-add, add-zero, length-append}
use Rattle.c_tree.specs.Plain.{Expr, num, text, null, name, call, new, new_of, arrow, index, not_of, neg, binary, Exprs, no_exprs, expr, Stmt, block, local, local_as, assign, do_call, free, when, when_else, while, for, break, continue, return, return_of, nothing, Stmts, no_stmts, stmt}
use Rattle.c_tree.specs.Nodes.{nodes, nodes_of, node_count, node_count_of, stmt_nodes, stmts_nodes, stmt_count, stmts_count}
use Rattle.flow_graph.proofs.Settings.{IsAt}

get_left : {A : Type 0} (ys zs : List A) (i : ℕ) → i < length ys → slice_get (ys ++ zs) i ≡ slice_get ys i
get_left [] zs i lt = absurd (omega arith)
get_left (y ∷ ys) zs zero lt = refl
get_left (y ∷ ys) zs (suc i) lt = get_left ys zs i (omega arith)

get_right : {A : Type 0} (ys zs : List A) (i : ℕ) → slice_get (ys ++ zs) (length ys + i) ≡ slice_get zs i
get_right [] zs i = ap (slice_get zs) (zero-add i)
get_right (y ∷ ys) zs i = let e : suc (length ys) + i ≡ suc (length ys + i) = omega arith in ap (slice_get (y ∷ (ys ++ zs))) e ∙ get_right ys zs i

pub at_first : {A : Type 0} (xs : List A) (n : ℕ) (y : A) (ys : List A) → IsAt xs n (y ∷ ys) → slice_get xs n ≡ Some y
at_first xs n y ys h = subst (λ k. slice_get xs k ≡ Some y) (add-zero n) (h 0 (omega arith))

pub at_tail : {A : Type 0} (xs : List A) (n : ℕ) (y : A) (ys : List A) → IsAt xs n (y ∷ ys) → IsAt xs (n + 1) ys
at_tail xs n y ys h i lt = let e : n + suc i ≡ n + 1 + i = omega arith in subst (λ k. slice_get xs k ≡ slice_get ys i) e (h (suc i) (omega arith))

pub at_left : {A : Type 0} (xs : List A) (n : ℕ) (ys zs : List A) → IsAt xs n (ys ++ zs) → IsAt xs n ys
at_left xs n ys zs h i lt = h i (omega (arith, length-append ys zs)) ∙ get_left ys zs i lt

pub at_right : {A : Type 0} (xs : List A) (n : ℕ) (ys zs : List A) (k : ℕ) → length ys ≡ k → IsAt xs n (ys ++ zs) → IsAt xs (n + k) zs
at_right xs n ys zs k e h i lt =
    let p : n + (k + i) ≡ n + k + i = omega arith in
    subst (λ j. slice_get xs j ≡ slice_get zs i) p
    (h (k + i) (omega (arith, length-append ys zs)) ∙ ap (λ l. slice_get (ys ++ zs) (l + i)) (sym e) ∙ get_right ys zs i)

mutual
  pub nodes_length : (e : Expr) → length (nodes e) ≡ node_count e
  nodes_length (num at z) = refl
  nodes_length (text at b) = refl
  nodes_length (null at) = refl
  nodes_length (name at x) = refl
  nodes_length (call at f es) = let h = nodes_of_length es in omega arith
  nodes_length (new at s) = refl
  nodes_length (new_of at s e) = let h = nodes_length e in omega arith
  nodes_length (arrow at b f) = let h = nodes_length b in omega arith
  nodes_length (index at b i) = let h = nodes_length b in let h' = nodes_length i in omega (arith, length-append (nodes b) (nodes i))
  nodes_length (not_of at e) = let h = nodes_length e in omega arith
  nodes_length (neg at e) = let h = nodes_length e in omega arith
  nodes_length (binary at o a b) = let h = nodes_length a in let h' = nodes_length b in omega (arith, length-append (nodes a) (nodes b))

  pub nodes_of_length : (es : Exprs) → length (nodes_of es) ≡ node_count_of es
  nodes_of_length no_exprs = refl
  nodes_of_length (expr e es) = let h = nodes_length e in let h' = nodes_of_length es in omega (arith, length-append (nodes e) (nodes_of es))

mutual
  pub stmt_length : (s : Stmt) → length (stmt_nodes s) ≡ stmt_count s
  stmt_length (block at ss) = let h = stmts_length ss in omega arith
  stmt_length (local at x t) = refl
  stmt_length (local_as at x t e) = let h = nodes_length e in omega arith
  stmt_length (assign at a e) = let h = nodes_length a in let h' = nodes_length e in omega (arith, length-append (nodes a) (nodes e))
  stmt_length (do_call at e) = let h = nodes_length e in omega arith
  stmt_length (free at e) = let h = nodes_length e in omega arith
  stmt_length (when at c s) = let h = nodes_length c in let h' = stmt_length s in omega (arith, length-append (nodes c) (stmt_nodes s))
  stmt_length (when_else at c s t) =
      let h = nodes_length c in let h' = stmt_length s in let h'' = stmt_length t in
      omega (arith, length-append (nodes c ++ stmt_nodes s) (stmt_nodes t), length-append (nodes c) (stmt_nodes s))
  stmt_length (while at c s) = let h = nodes_length c in let h' = stmt_length s in omega (arith, length-append (nodes c) (stmt_nodes s))
  stmt_length (for at init c step s) =
      let h = stmts_length init in let h' = nodes_of_length c in let i = stmts_length step in let i' = stmt_length s in
      omega (
        arith,
        length-append (stmts_nodes init ++ nodes_of c ++ stmts_nodes step) (stmt_nodes s),
        length-append (stmts_nodes init ++ nodes_of c) (stmts_nodes step),
        length-append (stmts_nodes init) (nodes_of c),
      )
  stmt_length (break at) = refl
  stmt_length (continue at) = refl
  stmt_length (return at) = refl
  stmt_length (return_of at e) = let h = nodes_length e in omega arith
  stmt_length (nothing at) = refl

  pub stmts_length : (ss : Stmts) → length (stmts_nodes ss) ≡ stmts_count ss
  stmts_length no_stmts = refl
  stmts_length (stmt s ss) = let h = stmt_length s in let h' = stmts_length ss in omega (arith, length-append (stmt_nodes s) (stmts_nodes ss))
