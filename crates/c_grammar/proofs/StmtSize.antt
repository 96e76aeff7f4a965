-- A statement has at most four nodes for each of its tokens.
use Rattle.std.proofs.Common.{◌≡◌, ◌≤◌, ◌+◌, ◌*◌, List, length, arith}
use Rattle.c_tree.specs.declared.position.Span.{Span}
use Rattle.c_tree.specs.declared.tree.Unit.{Unit as Base}
use Rattle.c_tree.specs.Plain.{Expr, Exprs, Stmt, Stmts, no_stmts}
use Rattle.c_tree.specs.Plain as tree
use Rattle.c_tree.specs.Nodes.{node_count, node_count_of, stmt_count, stmts_count}
use Rattle.c_token.specs.declared.token.Token.{Token}
use Rattle.c_grammar.specs.Parts.{Part, Row}
use Rattle.c_grammar.specs.Exprs as exprs
use Rattle.c_grammar.specs.Stmts.{IsTarget, IsPath, Simple, Local, SomeLocals, Locals, Enclosed, First, Condition, Step, IsHeading, Heading, IsStmt, Block, Body, joined}
use Rattle.c_grammar.specs.Stmts as grammar
use Rattle.c_grammar.proofs.Shorter.{next_shorter, base_shorter}
use Rattle.c_grammar.proofs.LocalComplete.{declarator_shorter}
use Rattle.c_grammar.proofs.ExprSize.{args_size, line_size, postfix_size}

target_size : (ts : List Token) (p : Part Expr) → IsTarget ts p → node_count p.tree + 4 * length p.rest ≤ 4 * length ts
target_size ts p (grammar.IsTarget.name t us x is) = omega arith
target_size ts p (grammar.IsTarget.arrow us vs ws t n f q from x y) = postfix_size us p (exprs.Postfix.arrow us vs ws t n f q from x y)
target_size ts p (grammar.IsTarget.index us vs ws o c q i from x y z) = postfix_size us p (exprs.Postfix.index us vs ws o c q i from x y z)

-- a path is in the tree twice
path_size : (ts : List Token) (p : Part Expr) → IsPath ts p → 2 * node_count p.tree + 4 * length p.rest ≤ 4 * length ts
path_size ts p (grammar.IsPath.name t us x is) = omega arith
path_size ts p (grammar.IsPath.arrow us vs ws t n f q from x y) =
    let s = path_size us q from in let a = next_shorter _ q.rest vs t x in let b = next_shorter _ vs ws n y in omega arith

pub simple_size : (ts : List Token) (p : Part Stmt) → Simple ts p → stmt_count p.tree + 4 * length p.rest ≤ 4 * length ts
simple_size ts p (grammar.assign us vs t l r target x from) =
    let a = target_size us l target in let b = next_shorter _ l.rest vs t x in let c = line_size _ vs r from in omega arith
simple_size ts p (grammar.increment us vs t q path x) = let a = path_size us q path in let b = next_shorter _ q.rest vs t x in omega arith
simple_size ts p (grammar.decrement us vs t q path x) = let a = path_size us q path in let b = next_shorter _ q.rest vs t x in omega arith
simple_size ts p (grammar.Simple.call us q (exprs.call_of t o c f vs ws xs a is x y z)) =
    let b = next_shorter _ vs ws o x in let s = args_size ws a y in let d = next_shorter _ a.rest xs c z in omega arith
simple_size ts p (grammar.free t o c us vs ws q is x y z) =
    let a = next_shorter _ us vs o x in let b = line_size _ vs q y in let d = next_shorter _ q.rest ws c z in omega arith

local_size : (b : Base) (ts : List Token) (p : Part Stmt) → Local b ts p → stmt_count p.tree + 4 * length p.rest ≤ 4 * length ts
local_size b ts p (grammar.Local.plain us vs m dec) = let a = declarator_shorter b us vs m dec in omega arith
local_size b ts p (grammar.Local.initialised us vs ws t m q dec x from) =
    let a = declarator_shorter b us vs m dec in let c = next_shorter _ vs ws t x in let e = line_size _ ws q from in omega arith

some_locals_size : (b : Base) (ts : List Token) (l : Row Stmts) → SomeLocals b ts l → stmts_count l.tree + 4 * length l.rest ≤ 4 * length ts
some_locals_size b ts l (grammar.SomeLocals.last us p from) = let a = local_size b us p from in omega arith
some_locals_size b ts l (grammar.SomeLocals.more us vs c p m from x rest) =
    let a = local_size b us p from in let d = next_shorter _ p.rest vs c x in let e = some_locals_size b vs m rest in omega arith

pub locals_size : (ts : List Token) (l : Row Stmts) → Locals ts l → stmts_count l.tree + 4 * length l.rest ≤ 4 * length ts
locals_size ts l (grammar.Locals.locals us b m base some) = let a = base_shorter us b base in let c = some_locals_size b.tree b.rest m some in omega arith

enclosed_size : (ts : List Token) (p : Part Expr) → Enclosed ts p → node_count p.tree + 4 * length p.rest ≤ 4 * length ts
enclosed_size ts p (grammar.enclosed us vs ws o c q x y z) =
    let a = next_shorter _ us vs o x in let b = line_size _ vs q y in let d = next_shorter _ q.rest ws c z in omega arith

first_size : (ts : List Token) (r : Row Stmts) → First ts r → stmts_count r.tree + 4 * length r.rest ≤ 4 * length ts
first_size ts r (grammar.First.none us) = omega arith
first_size ts r (grammar.First.simple us p from) = let a = simple_size us p from in omega arith
first_size ts r (grammar.First.locals us l from) = locals_size us l from

condition_size : (ts : List Token) (r : Row Exprs) → Condition ts r → node_count_of r.tree + 4 * length r.rest ≤ 4 * length ts
condition_size ts r (grammar.Condition.none us) = omega arith
condition_size ts r (grammar.Condition.some us p from) = let a = line_size _ us p from in omega arith

step_size : (ts : List Token) (r : Row Stmts) → Step ts r → stmts_count r.tree + 4 * length r.rest ≤ 4 * length ts
step_size ts r (grammar.Step.none us) = omega arith
step_size ts r (grammar.Step.some us p from) = let a = simple_size us p from in omega arith

heading_size : (ts : List Token) (h : Row Heading) → IsHeading ts h
    → stmts_count h.tree.first + node_count_of h.tree.condition + stmts_count h.tree.step + 4 * length h.rest ≤ 4 * length ts
heading_size ts h (grammar.heading us vs ws xs ys o m n c f k s a b e g i j q) =
    let a' = next_shorter _ us vs o a in
    let b' = first_size vs f b in
    let c' = next_shorter _ f.rest ws m e in
    let d' = condition_size ws k g in
    let e' = next_shorter _ k.rest xs n i in
    let f' = step_size xs s j in
    let g' = next_shorter _ s.rest ys c q in
    omega arith

joined_count : (ss rs : Stmts) → stmts_count (joined ss rs) ≡ stmts_count ss + stmts_count rs
joined_count no_stmts rs = omega arith
joined_count (tree.stmt s ss) rs = let again = joined_count ss rs in omega arith

mutual
  pub stmt_size : (ts : List Token) (p : Part Stmt) → IsStmt ts p → stmt_count p.tree + 4 * length p.rest ≤ 4 * length ts
  stmt_size ts p (grammar.block_of us q brace from) = block_size us q brace from
  stmt_size ts p (grammar.nothing t us is) = omega arith
  stmt_size ts p (grammar.IsStmt.simple us vs m q from x) = let a = simple_size us q from in let b = next_shorter _ q.rest vs m x in omega arith
  stmt_size ts p (grammar.break t e us vs is x) = let b = next_shorter _ us vs e x in omega arith
  stmt_size ts p (grammar.continue t e us vs is x) = let b = next_shorter _ us vs e x in omega arith
  stmt_size ts p (grammar.return t e us vs is x) = let b = next_shorter _ us vs e x in omega arith
  stmt_size ts p (grammar.return_of t e us vs q is x y) = let a = line_size _ us q x in let b = next_shorter _ q.rest vs e y in omega arith
  stmt_size ts p (grammar.when t us c s is x y z) = let a = enclosed_size us c x in let b = stmt_size c.rest s y in omega arith
  stmt_size ts p (grammar.when_else t o us vs c s e is x y z w) =
      let a = enclosed_size us c x in let b = stmt_size c.rest s y in let d = next_shorter _ s.rest vs o z in let f = stmt_size vs e w in omega arith
  stmt_size ts p (grammar.while t us c s is x y) = let a = enclosed_size us c x in let b = stmt_size c.rest s y in omega arith
  stmt_size ts p (grammar.for t us h s is x y) = let a = heading_size us h x in let b = stmt_size h.rest s y in omega arith

  pub block_size : (ts : List Token) (p : Part Stmt) (brace : Span) → Block ts p brace → stmt_count p.tree + 4 * length p.rest ≤ 4 * length ts
  block_size ts p brace (grammar.block o c us vs s is x y) = let a = body_size us s x in let b = next_shorter _ s.rest vs c y in omega arith

  body_size : (ts : List Token) (s : Row Stmts) → Body ts s → stmts_count s.tree + 4 * length s.rest ≤ 4 * length ts
  body_size ts s (grammar.Body.none us) = omega arith
  body_size ts s (grammar.Body.locals us vs m l r x y z) =
      let a = locals_size us l x in let b = next_shorter _ l.rest vs m y in let c = body_size vs r z in let d = joined_count l.tree r.tree in omega arith
  body_size ts s (grammar.Body.stmt us q r x y) = let a = stmt_size us q x in let b = body_size q.rest r y in omega arith
