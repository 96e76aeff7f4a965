-- The strings of a body, in order of their nodes.
use Rattle.std.specs.Prelude.{ℕ, ◌+◌, List, [], ◌∷◌, ◌++◌, length}
use Rattle.c_tree.specs.Plain.{Expr, num, text, null, name, call, new, new_of, arrow, index, not_of, neg, binary, Exprs, no_exprs, expr, Stmt, block, local, local_as, assign, do_call, free, when, when_else, while, for, break, continue, return, return_of, nothing, Stmts, no_stmts, stmt}
use Rattle.c_tree.specs.Nodes.{Node, of_expr}

-- the units of a string
abbrev pub string_at : Node → List (List ℕ)
string_at (of_expr (text at b)) = b ∷ []
string_at _ = []

abbrev pub strings : List Node → List (List ℕ)
strings [] = []
strings (n ∷ ns) = string_at n ++ strings ns

-- for each node how many strings stand before it, where t stand before the first
abbrev pub string_numbers : ℕ → List Node → List ℕ
string_numbers t [] = []
string_numbers t (n ∷ ns) = t ∷ string_numbers (t + length (string_at n)) ns

-- The same gathered along a tree, as `proofs/StringRows` shows

-- the strings so far, and for each node so far how many stand before it
pub record Seen : Type 0 where
  pub texts : List (List ℕ)
  pub numbers : List ℕ

abbrev pub noted : Seen → Seen
noted s = record { texts = s.texts; numbers = s.numbers ++ length s.texts ∷ [] }

abbrev pub seen_text : List ℕ → Seen → Seen
seen_text b s = record { texts = s.texts ++ b ∷ []; numbers = s.numbers ++ length s.texts ∷ [] }

abbrev mutual
  pub see : Expr → Seen → Seen
  see (num at z) s = noted s
  see (text at b) s = seen_text b s
  see (null at) s = noted s
  see (name at x) s = noted s
  see (call at f es) s = see_of es (noted s)
  see (new at n) s = noted s
  see (new_of at n e) s = see e (noted s)
  see (arrow at b f) s = see b (noted s)
  see (index at b i) s = see i (see b (noted s))
  see (not_of at e) s = see e (noted s)
  see (neg at e) s = see e (noted s)
  see (binary at op a b) s = see b (see a (noted s))

  pub see_of : Exprs → Seen → Seen
  see_of no_exprs s = s
  see_of (expr e es) s = see_of es (see e s)

abbrev mutual
  pub see_stmt : Stmt → Seen → Seen
  see_stmt (block at ss) s = see_stmts ss (noted s)
  see_stmt (local at x t) s = noted s
  see_stmt (local_as at x t e) s = see e (noted s)
  see_stmt (assign at a b) s = see b (see a (noted s))
  see_stmt (do_call at e) s = see e (noted s)
  see_stmt (free at e) s = see e (noted s)
  see_stmt (when at c t) s = see_stmt t (see c (noted s))
  see_stmt (when_else at c t u) s = see_stmt u (see_stmt t (see c (noted s)))
  see_stmt (while at c t) s = see_stmt t (see c (noted s))
  see_stmt (for at init c step t) s = see_stmt t (see_stmts step (see_of c (see_stmts init (noted s))))
  see_stmt (break at) s = noted s
  see_stmt (continue at) s = noted s
  see_stmt (return at) s = noted s
  see_stmt (return_of at e) s = see e (noted s)
  see_stmt (nothing at) s = noted s

  pub see_stmts : Stmts → Seen → Seen
  see_stmts no_stmts s = s
  see_stmts (stmt t ts) s = see_stmts ts (see_stmt t s)
