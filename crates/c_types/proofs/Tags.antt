-- The tags that rows mention, read at an index.
use Rattle.std.proofs.Common.{◌≡◌, ℕ, zero, suc, ◌+◌, ◌<◌, ◌≤◌, List, [], ◌∷◌, length, get_or, take, drop, map, nat_lt, if◌then◌else◌, refl, ap, add-one, drop-cons, arith}
use Rattle.c_tree.specs.View.{expr_view, exprs_view, stmt_view, stmts_view, proc_view}
use Rattle.c_tree.specs.declared.tree.Member.{Member}
use Rattle.c_tree.specs.declared.tree.StructDef.{StructDef}
use Rattle.c_tree.specs.declared.tree.Expr.{Expr}
use Rattle.c_tree.specs.declared.tree.Stmt.{Stmt}
use Rattle.c_tree.specs.declared.tree.ProcItem.{ProcItem}
use Rattle.c_types.specs.Declarations.{with_type, with_members, with_expr, with_exprs, with_stmt, with_stmts, with_proc, with_procs, before_count, with_file}

pub with_members_at : (ns : List (List ℕ)) (ms : List Member) (i : ℕ) (d : Member) → i < length ms
    → with_members ns (drop i ms) ≡ with_members (with_type ns (get_or ms i d).kind) (drop (i + 1) ms)
with_members_at ns ms i d h = rw (add-one i, drop-cons ms i d h) refl

pub with_exprs_at : (ns : List (List ℕ)) (es : List Expr) (i : ℕ) (d : Expr) → i < length es
    → with_exprs ns (exprs_view (drop i es)) ≡ with_exprs (with_expr ns (expr_view (get_or es i d))) (exprs_view (drop (i + 1) es))
with_exprs_at ns es i d h = rw (add-one i, drop-cons es i d h) refl

pub with_stmts_at : (ns : List (List ℕ)) (ss : List Stmt) (i : ℕ) (d : Stmt) → i < length ss
    → with_stmts ns (stmts_view (drop i ss)) ≡ with_stmts (with_stmt ns (stmt_view (get_or ss i d))) (stmts_view (drop (i + 1) ss))
with_stmts_at ns ss i d h = rw (add-one i, drop-cons ss i d h) refl

pub with_procs_at : (ns : List (List ℕ)) (ps : List ProcItem) (i : ℕ) (d : ProcItem) → i < length ps
    → with_procs ns (map proc_view (drop i ps)) ≡ with_procs (with_proc ns (proc_view (get_or ps i d))) (map proc_view (drop (i + 1) ps))
with_procs_at ns ps i d h = rw (add-one i, drop-cons ps i d h) refl

pub before_count_at : (s : StructDef) (ps : List ProcItem) (i : ℕ) (d : ProcItem) → i < length ps
    → before_count s (map proc_view (drop i ps)) ≡ (if nat_lt (get_or ps i d).at.start s.at.start then before_count s (map proc_view (drop (i + 1) ps)) + 1 else 0)
before_count_at s ps i d h = rw (add-one i, drop-cons ps i d h) refl

pub before_count-le : (s : StructDef) (ps : List ProcItem) → before_count s (map proc_view ps) ≤ length ps
before_count-le s [] = omega arith
before_count-le s (p ∷ ps) = let h = before_count-le s ps in grind (arith, h)

pub map-take : {A B : Type 0} (f : A → B) (xs : List A) (n : ℕ) → map f (take n xs) ≡ take n (map f xs)
map-take f xs zero = refl
map-take f [] (suc n) = refl
map-take f (x ∷ xs) (suc n) = ap (λ ys. f x ∷ ys) (map-take f xs n)

pub map-drop : {A B : Type 0} (f : A → B) (xs : List A) (n : ℕ) → map f (drop n xs) ≡ drop n (map f xs)
map-drop f xs zero = refl
map-drop f [] (suc n) = refl
map-drop f (x ∷ xs) (suc n) = map-drop f xs n

pub with_file_at : (ns : List (List ℕ)) (ds : List StructDef) (ps : List ProcItem) (i : ℕ) (d : StructDef) → i < length ds
    → with_file ns (drop i ds) (map proc_view ps)
    ≡ with_file (with_members (with_procs ns (map proc_view (take (before_count (get_or ds i d) (map proc_view ps)) ps))) (get_or ds i d).members) (drop (i + 1) ds) (map proc_view (drop (before_count (get_or ds i d) (map proc_view ps)) ps))
with_file_at ns ds ps i d h =
    let k = before_count (get_or ds i d) (map proc_view ps) in
    rw (map-take proc_view ps k, map-drop proc_view ps k, add-one i, drop-cons ds i d h) refl
