-- That a tree is formed is a proposition: it holds in one way at most, so that it may be had from a ghost field.
use Rattle.std.proofs.Common.{◌≡◌, ℕ, List, [], Option, Some, None, ◌⊎◌, inl, inr, ap}
use mathlib.Core.List.{is_set as List-set}
use Rattle.std.proofs.Math.Bridge.{le_prop}
use Rattle.std.proofs.Math.Nat.{ℕ_set}
use Rattle.std.proofs.Math.Bool.{Bool-set}
use Rattle.std.proofs.Math.Logic.{∥∥₁_elim}
use Rattle.c_tree.specs.declared.tree.TypeName.{TypeName}
use Rattle.c_tree.specs.declared.tree.Unit.{Unit as Measured}
use Rattle.c_tree.specs.declared.tree.Member.{Member}
use Rattle.c_tree.specs.declared.tree.StructDef.{StructDef}
use Rattle.c_tree.specs.Plain.{NewShape, Expr, num, text, null, name, call, new, new_of, arrow, index, not_of, neg, binary, Exprs, no_exprs, expr, Stmt, block, local, local_as, assign, do_call, free, when, when_else, while, for, break, continue, return, return_of, nothing, Stmts, no_stmts, stmt, Procedure, Tree}
use Rattle.c_tree.specs.Names.{IsName}
use Rattle.c_tree.specs.Formed.{HasNamedType, HasNamedUnit, HasNamedCast, IsFormedShape, IsFormedExpr, AreFormedExprs, IsTarget, IsCall, IsSimple, IsLocal, AreLocals, IsInit, IsStep, DeclaresNothing, IsFormedStmt, AreFormedStmts, IsFormedMember, IsFormedParam, IsFormedStruct, IsBlock, HasFormedBody, IsFormedProc, IsFormed}

type_prop : (t : TypeName) → IsProp (HasNamedType t)
type_prop TypeName.Int = hlevel
type_prop TypeName.Char = hlevel
type_prop TypeName.IntPtr = hlevel
type_prop TypeName.CharPtr = hlevel
type_prop (TypeName.StructPtr s) = hlevel Bool-set

unit_prop : (u : Option Measured) → IsProp (HasNamedUnit u)
unit_prop None = hlevel
unit_prop (Some Measured.Int) = hlevel
unit_prop (Some Measured.Char) = hlevel
unit_prop (Some (Measured.Struct s)) = hlevel Bool-set
unit_prop (Some (Measured.Behind x)) = hlevel Bool-set

cast_prop : (t : Option TypeName) → IsProp (HasNamedCast t)
cast_prop None = hlevel
cast_prop (Some t) = type_prop t

shape_prop : (n : NewShape) → IsProp (IsFormedShape n)
shape_prop n = hlevel (cast_prop n.cast, unit_prop n.unit)

mutual
  expr_prop : (e : Expr) → IsProp (IsFormedExpr e)
  expr_prop (num at z) = hlevel
  expr_prop (text at b) = hlevel
  expr_prop (null at) = hlevel
  expr_prop (name at x) = hlevel Bool-set
  expr_prop (call at f es) = hlevel (exprs_prop es, Bool-set)
  expr_prop (new at n) = hlevel (shape_prop n, Bool-set)
  expr_prop (new_of at n e) = hlevel (shape_prop n, expr_prop e)
  expr_prop (arrow at b f) = hlevel (expr_prop b, Bool-set)
  expr_prop (index at b i) = hlevel (expr_prop b, expr_prop i)
  expr_prop (not_of at e) = expr_prop e
  expr_prop (neg at e) = expr_prop e
  expr_prop (binary at o a b) = hlevel (expr_prop a, expr_prop b)

  exprs_prop : (es : Exprs) → IsProp (AreFormedExprs es)
  exprs_prop no_exprs = hlevel
  exprs_prop (expr e es) = hlevel (expr_prop e, exprs_prop es)

target_prop : (e : Expr) → IsProp (IsTarget e)
target_prop (name at x) = hlevel
target_prop (arrow at b f) = hlevel
target_prop (index at b i) = hlevel
target_prop _ = hlevel

call_prop : (e : Expr) → IsProp (IsCall e)
call_prop (call at f es) = hlevel
call_prop _ = hlevel

simple_prop : (s : Stmt) → IsProp (IsSimple s)
simple_prop (assign at a b) = hlevel
simple_prop (do_call at e) = hlevel
simple_prop (free at e) = hlevel
simple_prop _ = hlevel

local_prop : (s : Stmt) → IsProp (IsLocal s)
local_prop (local at x t) = hlevel
local_prop (local_as at x t e) = hlevel
local_prop _ = hlevel

locals_prop : (ss : Stmts) → IsProp (AreLocals ss)
locals_prop no_stmts = hlevel
locals_prop (stmt s ss) = hlevel (local_prop s, locals_prop ss)

-- either of two propositions of which both never hold
either_prop : {A B : Type 0} → IsProp A → IsProp B → (A → B → ⊥) → IsProp (A ⊎ B)
either_prop p q never (inl a) (inl b) = ap inl (p a b)
either_prop p q never (inl a) (inr b) = absurd (never a b)
either_prop p q never (inr a) (inl b) = absurd (never b a)
either_prop p q never (inr a) (inr b) = ap inr (q a b)

simple_or_local : (s : Stmt) → IsSimple s → IsLocal s → ⊥
simple_or_local (assign at a b) h k = k
simple_or_local (do_call at e) h k = k
simple_or_local (free at e) h k = k
simple_or_local _ h k = h

init_prop : (ss : Stmts) → IsProp (IsInit ss)
init_prop no_stmts = hlevel
init_prop (stmt s no_stmts) = either_prop (simple_prop s) (local_prop s) (simple_or_local s)
init_prop (stmt s (stmt r ss)) = hlevel (local_prop s, locals_prop (stmt r ss))

step_prop : (ss : Stmts) → IsProp (IsStep ss)
step_prop no_stmts = hlevel
step_prop (stmt s no_stmts) = simple_prop s
step_prop (stmt s (stmt r ss)) = hlevel

nothing_prop : (s : Stmt) → IsProp (DeclaresNothing s)
nothing_prop (local at x t) = hlevel
nothing_prop (local_as at x t e) = hlevel
nothing_prop _ = hlevel

mutual
  stmt_prop : (s : Stmt) → IsProp (IsFormedStmt s)
  stmt_prop (block at ss) = stmts_prop ss
  stmt_prop (local at x t) = hlevel (type_prop t, Bool-set)
  stmt_prop (local_as at x t e) = hlevel (type_prop t, expr_prop e, Bool-set)
  stmt_prop (assign at a b) = hlevel (target_prop a, expr_prop a, expr_prop b)
  stmt_prop (do_call at e) = hlevel (call_prop e, expr_prop e)
  stmt_prop (free at e) = expr_prop e
  stmt_prop (when at c s) = hlevel (expr_prop c, nothing_prop s, stmt_prop s)
  stmt_prop (when_else at c s t) = hlevel (expr_prop c, nothing_prop s, stmt_prop s, nothing_prop t, stmt_prop t)
  stmt_prop (while at c s) = hlevel (expr_prop c, nothing_prop s, stmt_prop s)
  stmt_prop (for at init c step s) = hlevel (init_prop init, stmts_prop init, exprs_prop c, step_prop step, stmts_prop step, nothing_prop s, stmt_prop s)
  stmt_prop (break at) = hlevel
  stmt_prop (continue at) = hlevel
  stmt_prop (return at) = hlevel
  stmt_prop (return_of at e) = expr_prop e
  stmt_prop (nothing at) = hlevel

  stmts_prop : (ss : Stmts) → IsProp (AreFormedStmts ss)
  stmts_prop no_stmts = hlevel
  stmts_prop (stmt s ss) = hlevel (stmt_prop s, stmts_prop ss)

member_prop : (m : Member) → IsProp (IsFormedMember m)
member_prop m = hlevel (type_prop m.kind, Bool-set)

-- a name is not empty
never_named : IsName [] → ⊥
never_named h = absurd (cc)

named_or_not : (x : List ℕ) → IsName x → x ≡ [] → ⊥
named_or_not x h e = never_named (rw e at h)

param_prop : (m : Member) → IsProp (IsFormedParam m)
param_prop m =
    let named : IsProp (IsName m.name) = hlevel Bool-set in
    let empty : IsProp (m.name ≡ []) = List-set ℕ_set m.name [] in
    let either : IsProp (IsName m.name ⊎ (m.name ≡ [])) = either_prop named empty (named_or_not m.name) in
    hlevel (either, type_prop m.kind)

block_prop : (s : Stmt) → IsProp (IsBlock s)
block_prop (block at ss) = hlevel
block_prop _ = hlevel

body_prop : (ps : List Member) (o : Option Stmt) → IsProp (HasFormedBody ps o)
body_prop ps None = hlevel param_prop
body_prop ps (Some s) = hlevel (member_prop, block_prop s, stmt_prop s)

struct_prop : (d : StructDef) → IsProp (IsFormedStruct d)
struct_prop d = hlevel (member_prop, Bool-set)

proc_prop : (p : Procedure) → IsProp (IsFormedProc p)
proc_prop p = hlevel (cast_prop p.result, body_prop p.params p.body, Bool-set)

pub formed_prop : (t : Tree) → IsProp (IsFormed t)
formed_prop t = hlevel (struct_prop, proc_prop, le_prop)

pub is_formed : (t : Tree) → ∥ IsFormed t ∥₁ → IsFormed t
is_formed t h = ∥∥₁_elim h (formed_prop t) (λ f. f)
