-- The procedures and the strings of the graph of a file.
use Rattle.std.proofs.Common.{◌≡◌, ℕ, ◌+◌, ◌<◌, ◌≤◌, zero, suc, List, [], ◌∷◌, ◌++◌, length, refl, ap, ◌∙◌, arith, length-append, nat_eq, Some, slice_get, slice_index_or}
use Rattle.c_tree.specs.declared.position.Span.{Span}
use Rattle.c_tree.specs.declared.tree.Tree.{Tree}
use Rattle.c_tree.specs.Plain.{Expr, num, text, null, name, call, new, new_of, arrow, index, not_of, neg, binary, Exprs, no_exprs, expr, Stmt, block, local, local_as, assign, do_call, free, when, when_else, while, for, break, continue, return, return_of, nothing, Stmts, no_stmts, stmt}
use Rattle.c_tree.specs.Nodes.{Node, of_expr, of_stmt, nodes, nodes_of, node_count, node_count_of, stmt_nodes, stmts_nodes, stmt_count, stmts_count}
use Rattle.c_types.specs.declared.infos.ProcInfo.{ProcInfo}
use Rattle.flow_graph.specs.FlowGraph.{Flow}
use Rattle.flow_graph.specs.Strings.{string_at, strings, string_numbers}
use Rattle.flow_graph.specs.GraphOf.{flow_of_proc, body_of, strings_of, all_strings, flows_from}

some_same : {X : Type 0} (x y : X) → Some x ≡ Some y → x ≡ y
some_same x y h = cc

-- the procedure at place i of a list from number k on, before whose strings there are so many of `total`
pub record HasFlow (t : Tree) (types main k : ℕ) (fs : List Flow) (total i : ℕ) (p : ProcInfo) : Type 0 where
  pub before : ℕ
  pub is : slice_get fs i ≡ Some (flow_of_proc types (nat_eq (k + i) main) before p (body_of t p))
  pub room : before + length (strings_of (body_of t p)) ≤ total

pub flows_get : (t : Tree) (types main k before : ℕ) (ps : List ProcInfo) (i : ℕ) (p : ProcInfo) → slice_get ps i ≡ Some p
    → HasFlow t types main k (flows_from t types main k before ps) (before + length (all_strings t ps)) i p
flows_get t types main k before [] i p h = absurd (cc)
flows_get t types main k before (q ∷ ps) zero p h =
    rw (← (some_same q p h)) (record {
      before = before;
      is = ap (λ n. Some (flow_of_proc types (nat_eq n main) before q (body_of t q))) (omega arith);
      room = omega (arith, length-append (strings_of (body_of t q)) (all_strings t ps));
    })
flows_get t types main k before (q ∷ ps) (suc i) p h =
    let r = flows_get t types main (k + 1) (before + length (strings_of (body_of t q))) ps i p h in
    record {
      before = r.before;
      is = r.is ∙ ap (λ n. Some (flow_of_proc types (nat_eq n main) r.before p (body_of t p))) (omega arith);
      room = omega (arith, r.room, length-append (strings_of (body_of t q)) (all_strings t ps));
    }

pub flows_length : (t : Tree) (types main k before : ℕ) (ps : List ProcInfo) → length (flows_from t types main k before ps) ≡ length ps
flows_length t types main k before [] = refl
flows_length t types main k before (p ∷ ps) = omega (arith, flows_length t types main (k + 1) (before + length (strings_of (body_of t p))) ps)

-- Strings

pub texts_within : (before : ℕ) (ns : List Node) (n : ℕ) (at : Span) (b : List ℕ) → slice_get ns n ≡ Some (of_expr (text at b))
    → slice_index_or (string_numbers before ns) n 0 < before + length (strings ns)
texts_within before [] n at b h = absurd (cc)
texts_within before (m ∷ ns) zero at b h =
    let one : length (string_at m) ≡ 1 = rw (some_same m (of_expr (text at b)) h) refl in
    omega (arith, one, length-append (string_at m) (strings ns))
texts_within before (m ∷ ns) (suc n) at b h =
    omega (arith, texts_within (before + length (string_at m)) ns n at b h, length-append (string_at m) (strings ns))

string_at_few : (n : Node) → length (string_at n) ≤ 1
string_at_few (of_expr (text at b)) = omega arith
string_at_few (of_expr (num at z)) = omega arith
string_at_few (of_expr (null at)) = omega arith
string_at_few (of_expr (name at x)) = omega arith
string_at_few (of_expr (call at f es)) = omega arith
string_at_few (of_expr (new at s)) = omega arith
string_at_few (of_expr (new_of at s e)) = omega arith
string_at_few (of_expr (arrow at b f)) = omega arith
string_at_few (of_expr (index at b i)) = omega arith
string_at_few (of_expr (not_of at e)) = omega arith
string_at_few (of_expr (neg at e)) = omega arith
string_at_few (of_expr (binary at o a b)) = omega arith
string_at_few (of_stmt s) = omega arith

pub strings_few : (ns : List Node) → length (strings ns) ≤ length ns
strings_few [] = omega arith
strings_few (n ∷ ns) = omega (arith, string_at_few n, strings_few ns, length-append (string_at n) (strings ns))

mutual
  pub nodes_length : (e : Expr) → length (nodes e) ≡ node_count e
  nodes_length (num at z) = refl
  nodes_length (text at b) = refl
  nodes_length (null at) = refl
  nodes_length (name at x) = refl
  nodes_length (call at f es) = omega (arith, nodes_of_length es)
  nodes_length (new at s) = refl
  nodes_length (new_of at s e) = omega (arith, nodes_length e)
  nodes_length (arrow at b f) = omega (arith, nodes_length b)
  nodes_length (index at b i) = omega (arith, nodes_length b, nodes_length i, length-append (nodes b) (nodes i))
  nodes_length (not_of at e) = omega (arith, nodes_length e)
  nodes_length (neg at e) = omega (arith, nodes_length e)
  nodes_length (binary at o a b) = omega (arith, nodes_length a, nodes_length b, length-append (nodes a) (nodes b))

  pub nodes_of_length : (es : Exprs) → length (nodes_of es) ≡ node_count_of es
  nodes_of_length no_exprs = refl
  nodes_of_length (expr e es) = omega (arith, nodes_length e, nodes_of_length es, length-append (nodes e) (nodes_of es))

mutual
  pub stmt_nodes_length : (s : Stmt) → length (stmt_nodes s) ≡ stmt_count s
  stmt_nodes_length (block at ss) = omega (arith, stmts_nodes_length ss)
  stmt_nodes_length (local at x t) = refl
  stmt_nodes_length (local_as at x t e) = omega (arith, nodes_length e)
  stmt_nodes_length (assign at a b) = omega (arith, nodes_length a, nodes_length b, length-append (nodes a) (nodes b))
  stmt_nodes_length (do_call at e) = omega (arith, nodes_length e)
  stmt_nodes_length (free at e) = omega (arith, nodes_length e)
  stmt_nodes_length (when at c s) = omega (arith, nodes_length c, stmt_nodes_length s, length-append (nodes c) (stmt_nodes s))
  stmt_nodes_length (when_else at c s t) =
      omega (arith, nodes_length c, stmt_nodes_length s, stmt_nodes_length t, length-append (nodes c ++ stmt_nodes s) (stmt_nodes t), length-append (nodes c) (stmt_nodes s))
  stmt_nodes_length (while at c s) = omega (arith, nodes_length c, stmt_nodes_length s, length-append (nodes c) (stmt_nodes s))
  stmt_nodes_length (for at init c step s) =
      omega (
        arith,
        stmts_nodes_length init,
        nodes_of_length c,
        stmts_nodes_length step,
        stmt_nodes_length s,
        length-append (stmts_nodes init ++ nodes_of c ++ stmts_nodes step) (stmt_nodes s),
        length-append (stmts_nodes init ++ nodes_of c) (stmts_nodes step),
        length-append (stmts_nodes init) (nodes_of c),
      )
  stmt_nodes_length (break at) = refl
  stmt_nodes_length (continue at) = refl
  stmt_nodes_length (return at) = refl
  stmt_nodes_length (return_of at e) = omega (arith, nodes_length e)
  stmt_nodes_length (nothing at) = refl

  pub stmts_nodes_length : (ss : Stmts) → length (stmts_nodes ss) ≡ stmts_count ss
  stmts_nodes_length no_stmts = refl
  stmts_nodes_length (stmt s ss) = omega (arith, stmt_nodes_length s, stmts_nodes_length ss, length-append (stmt_nodes s) (stmts_nodes ss))
