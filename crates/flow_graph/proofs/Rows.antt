-- Definitions over rows of children, read at an index.
use Rattle.std.proofs.Common.{◌≡◌, ℕ, zero, suc, ◌+◌, ◌-◌, ◌<◌, ◌≤◌, ◌∷◌, [], List, length, get_or, drop, refl, sym, ap, ◌∙◌, arith, add-one, drop-cons}
use Rattle.c_tree.specs.Nodes.{node_count, node_count_of, stmt_count, stmts_count}
use Rattle.c_tree.specs.View.{expr_view, exprs_view, stmt_view, stmts_view}
use Rattle.c_tree.specs.declared.tree.Expr.{Expr}
use Rattle.c_tree.specs.declared.tree.Stmt.{Stmt}
use Rattle.c_tree.specs.declared.position.Place.{Place}
use Rattle.c_types.specs.declared.infos.NodeInfo.{NodeInfo}
use Rattle.flow_graph.specs.Parts.{in_turn, temp}
use Rattle.flow_graph.specs.Edges.{ways, args, temps, flow, flow_all}

pub node_count_at : (es : List Expr) (i : ℕ) (d : Expr) → i < length es
    → node_count_of (exprs_view (drop i es)) ≡ node_count (expr_view (get_or es i d)) + node_count_of (exprs_view (drop (i + 1) es))
node_count_at es i d h = rw (add-one i, drop-cons es i d h) refl

pub stmt_count_at : (ss : List Stmt) (i : ℕ) (d : Stmt) → i < length ss
    → stmts_count (stmts_view (drop i ss)) ≡ stmt_count (stmt_view (get_or ss i d)) + stmts_count (stmts_view (drop (i + 1) ss))
stmt_count_at ss i d h = rw (add-one i, drop-cons ss i d h) refl

pub temps_at : (is : List NodeInfo) (base n : ℕ) (es : List Expr) (i : ℕ) (d : Expr) → i < length es
    → temps is base n (exprs_view (drop i es)) ≡ temp is base n ∷ temps is base (n + node_count (expr_view (get_or es i d))) (exprs_view (drop (i + 1) es))
temps_at is base n es i d h = rw (add-one i, drop-cons es i d h) refl

pub args_at : (is : List NodeInfo) (base n : ℕ) (es : List Expr) (q : Place) (i : ℕ) (d : Expr) → i < length es
    → args is base n (exprs_view (drop i es)) q
    ≡ in_turn ((ways is base n (expr_view (get_or es i d))).run (temp is base n)) (args is base (n + node_count (expr_view (get_or es i d))) (exprs_view (drop (i + 1) es))) q
args_at is base n es q i d h = rw (add-one i, drop-cons es i d h) refl

pub flow_all_at : (is : List NodeInfo) (bk ct : Place) (n : ℕ) (ss : List Stmt) (q : Place) (i : ℕ) (d : Stmt) → i < length ss
    → flow_all is bk ct n (stmts_view (drop i ss)) q
    ≡ in_turn (flow is bk ct n (stmt_view (get_or ss i d))) (flow_all is bk ct (n + stmt_count (stmt_view (get_or ss i d))) (stmts_view (drop (i + 1) ss))) q
flow_all_at is bk ct n ss q i d h = rw (add-one i, drop-cons ss i d h) refl

-- A walk over a row from its back: the child before index i, of number k', where the one after it has number k

pub node_count_drop : (es : List Expr) (i : ℕ) → node_count_of (exprs_view (drop i es)) ≤ node_count_of (exprs_view es)
node_count_drop [] zero = omega arith
node_count_drop [] (suc i) = omega arith
node_count_drop (e ∷ es) zero = omega arith
node_count_drop (e ∷ es) (suc i) = omega (arith, node_count_drop es i)

before_one : (i : ℕ) → 0 < i → (i - 1) + 1 ≡ i
before_one i h = omega arith

pub node_count_back : (es : List Expr) (i : ℕ) (e : Expr) → 0 < i → i ≤ length es → e ≡ get_or es (i - 1) e
    → node_count_of (exprs_view (drop (i - 1) es)) ≡ node_count (expr_view e) + node_count_of (exprs_view (drop i es))
node_count_back es i e pos within is =
    let a = node_count_at es (i - 1) e (omega arith) in
    let b = ap (λ j. node_count_of (exprs_view (drop j es))) (before_one i pos) in
    let c = ap (λ x. node_count (expr_view x)) is in
    omega arith

pub args_back : (is : List NodeInfo) (base k' k : ℕ) (es : List Expr) (q : Place) (i : ℕ) (e : Expr) → 0 < i → i ≤ length es → e ≡ get_or es (i - 1) e
    → k' + node_count (expr_view e) ≡ k
    → args is base k' (exprs_view (drop (i - 1) es)) q
    ≡ in_turn ((ways is base k' (expr_view e)).run (temp is base k')) (args is base k (exprs_view (drop i es))) q
args_back is base k' k es q i e pos within is_e own =
    args_at is base k' es q (i - 1) e (omega arith)
    ∙ ap (λ x. in_turn ((ways is base k' (expr_view x)).run (temp is base k')) (args is base (k' + node_count (expr_view x)) (exprs_view (drop ((i - 1) + 1) es))) q) (sym is_e)
    ∙ ap (λ j. in_turn ((ways is base k' (expr_view e)).run (temp is base k')) (args is base (k' + node_count (expr_view e)) (exprs_view (drop j es))) q) (before_one i pos)
    ∙ ap (λ m. in_turn ((ways is base k' (expr_view e)).run (temp is base k')) (args is base m (exprs_view (drop i es))) q) own

pub stmt_count_drop : (ss : List Stmt) (i : ℕ) → stmts_count (stmts_view (drop i ss)) ≤ stmts_count (stmts_view ss)
stmt_count_drop [] zero = omega arith
stmt_count_drop [] (suc i) = omega arith
stmt_count_drop (s ∷ ss) zero = omega arith
stmt_count_drop (s ∷ ss) (suc i) = omega (arith, stmt_count_drop ss i)

pub stmt_count_back : (ss : List Stmt) (i : ℕ) (s : Stmt) → 0 < i → i ≤ length ss → s ≡ get_or ss (i - 1) s
    → stmts_count (stmts_view (drop (i - 1) ss)) ≡ stmt_count (stmt_view s) + stmts_count (stmts_view (drop i ss))
stmt_count_back ss i s pos within is =
    let a = stmt_count_at ss (i - 1) s (omega arith) in
    let b = ap (λ j. stmts_count (stmts_view (drop j ss))) (before_one i pos) in
    let c = ap (λ x. stmt_count (stmt_view x)) is in
    omega arith

pub flow_all_back : (is : List NodeInfo) (bk ct : Place) (k' k : ℕ) (ss : List Stmt) (q : Place) (i : ℕ) (s : Stmt) → 0 < i → i ≤ length ss → s ≡ get_or ss (i - 1) s
    → k' + stmt_count (stmt_view s) ≡ k
    → flow_all is bk ct k' (stmts_view (drop (i - 1) ss)) q ≡ in_turn (flow is bk ct k' (stmt_view s)) (flow_all is bk ct k (stmts_view (drop i ss))) q
flow_all_back is bk ct k' k ss q i s pos within is_s own =
    flow_all_at is bk ct k' ss q (i - 1) s (omega arith)
    ∙ ap (λ x. in_turn (flow is bk ct k' (stmt_view x)) (flow_all is bk ct (k' + stmt_count (stmt_view x)) (stmts_view (drop ((i - 1) + 1) ss))) q) (sym is_s)
    ∙ ap (λ j. in_turn (flow is bk ct k' (stmt_view s)) (flow_all is bk ct (k' + stmt_count (stmt_view s)) (stmts_view (drop j ss))) q) (before_one i pos)
    ∙ ap (λ m. in_turn (flow is bk ct k' (stmt_view s)) (flow_all is bk ct m (stmts_view (drop i ss))) q) own
