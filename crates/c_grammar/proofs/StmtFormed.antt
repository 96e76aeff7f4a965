-- A statement of tokens that hold names is formed, and no deeper than its spelling.
use Rattle.std.proofs.Common.{◌≤◌, suc, max, true, false, List, subst, inl, inr, Some, arith}
use Rattle.c_tree.specs.declared.position.Span.{Span}
use Rattle.c_tree.specs.declared.tree.Unit.{Unit as Base}
use Rattle.c_tree.specs.declared.tree.Member.{Member}
use Rattle.c_tree.specs.Plain.{Expr, Exprs, Stmt, Stmts, no_stmts}
use Rattle.c_tree.specs.Plain as tree
use Rattle.c_tree.specs.Depth.{depth_of, stmt_depth, stmts_depth}
use Rattle.c_tree.specs.Formed.{HasNamedUnit, AreFormedExprs, IsTarget as IsTargetTree, IsCall, IsSimple, IsLocal, AreLocals, IsInit, IsStep, DeclaresNothing, IsFormedStmt, AreFormedStmts, IsFormedMember, IsBlock}
use Rattle.c_token.specs.declared.token.Token.{Token}
use Rattle.c_token.specs.declared.token.TokenKind.TheVariants as kind
use Rattle.c_grammar.specs.Parts.{Part, Row}
use Rattle.c_grammar.specs.Types.{IsDeclarator}
use Rattle.c_grammar.specs.Types as types
use Rattle.c_grammar.specs.Exprs.{Postfix, Call}
use Rattle.c_grammar.specs.Exprs as exprs
use Rattle.c_grammar.specs.Stmts.{IsTarget, IsPath, Simple, Local, SomeLocals, Locals, Enclosed, First, Condition, Step, IsHeading, Heading, IsStmt, Block, Body, joined}
use Rattle.c_grammar.specs.Stmts as grammar
use Rattle.c_grammar.specs.Named.{HoldsName, HoldNames}
use Rattle.c_grammar.proofs.ExprFormed.{next_names, base_names, star_names, type_named, IsGood, AreGood, line_formed, postfix_formed, call_formed}
use Rattle.c_grammar.proofs.SimpleComplete.{path_target}

target_formed : (ts : List Token) (p : Part Expr) → IsTarget ts p → HoldNames ts → IsGood p × IsTargetTree p.tree
target_formed ts p (grammar.IsTarget.name t us x is) h = (record { formed = subst HoldsName is h.0; low = omega arith; names = h.1 }, tt)
target_formed ts p (grammar.IsTarget.arrow us vs ws t n f q from x y) h = (postfix_formed us p (exprs.Postfix.arrow us vs ws t n f q from x y) h, tt)
target_formed ts p (grammar.IsTarget.index us vs ws o c q i from x y z) h = (postfix_formed us p (exprs.Postfix.index us vs ws o c q i from x y z) h, tt)

pub record IsGoodStmt (p : Part Stmt) : Type 0 where
  pub formed : IsFormedStmt p.tree
  pub low : stmt_depth p.tree ≤ p.depth
  pub names : HoldNames p.rest

pub record AreGoodStmts (r : Row Stmts) : Type 0 where
  pub formed : AreFormedStmts r.tree
  pub low : stmts_depth r.tree ≤ r.depth
  pub names : HoldNames r.rest

is_call : (ts : List Token) (p : Part Expr) → Call ts p → IsCall p.tree
is_call ts p (exprs.call_of t o c f us vs ws a is x y z) = tt

pub simple_formed : (ts : List Token) (p : Part Stmt) → Simple ts p → HoldNames ts → IsGoodStmt p × IsSimple p.tree
simple_formed ts p (grammar.assign us vs t l r target x from) h =
    let a = target_formed us l target h in let g = a.0 in let b = next_names _ l.rest vs t x g.names in let i = line_formed _ vs r from b.1 in
    let low = g.low in let low' = i.low in
    (record { formed = (a.1, g.formed, i.formed); low = omega arith; names = i.names }, tt)
simple_formed ts p (grammar.increment us vs t q path x) h =
    let a = target_formed us q (path_target us q path) h in let g = a.0 in let b = next_names _ q.rest vs t x g.names in let low = g.low in
    (record { formed = (a.1, g.formed, (g.formed, tt)); low = omega arith; names = b.1 }, tt)
simple_formed ts p (grammar.decrement us vs t q path x) h =
    let a = target_formed us q (path_target us q path) h in let g = a.0 in let b = next_names _ q.rest vs t x g.names in let low = g.low in
    (record { formed = (a.1, g.formed, (g.formed, tt)); low = omega arith; names = b.1 }, tt)
simple_formed ts p (grammar.Simple.call us q from) h =
    let g = call_formed us q from h in let low = g.low in
    (record { formed = (is_call us q from, g.formed); low = omega arith; names = g.names }, tt)
simple_formed ts p (grammar.free t o c us vs ws q is x y z) h =
    let a = next_names _ us vs o x h.1 in let g = line_formed _ vs q y a.1 in let d = next_names _ q.rest ws c z g.names in let low = g.low in
    (record { formed = g.formed; low = omega arith; names = d.1 }, tt)

pub declarator_formed : (b : Base) (ts us : List Token) (m : Member) → IsDeclarator b ts m us → HasNamedUnit (Some b) → HoldNames ts → IsFormedMember m × HoldNames us
declarator_formed b ts us m (types.IsDeclarator.plain n vs x k is type) base h = ((subst HoldsName is h.0, type_named b false k type base), h.1)
declarator_formed b ts us m (types.IsDeclarator.starred vs ws xs n x k at stars next type) base h =
    let a = star_names vs ws at stars h in let c = next_names (kind.Name x) ws xs n next a in
    ((c.0, type_named b true k type base), c.1)

local_formed : (b : Base) (ts : List Token) (p : Part Stmt) → Local b ts p → HasNamedUnit (Some b) → HoldNames ts → IsGoodStmt p × IsLocal p.tree
local_formed b ts p (grammar.Local.plain us vs m dec) base h =
    let a = declarator_formed b us vs m dec base h in
    (record { formed = (a.0.0, a.0.1); low = omega arith; names = a.1 }, tt)
local_formed b ts p (grammar.Local.initialised us vs ws t m q dec x from) base h =
    let a = declarator_formed b us vs m dec base h in let c = next_names _ vs ws t x a.1 in let g = line_formed _ ws q from c.1 in let low = g.low in
    (record { formed = (a.0.0, a.0.1, g.formed); low = omega arith; names = g.names }, tt)

-- one or more declarations
record AreDeclared (r : Row Stmts) : Type 0 where
  good : AreGoodStmts r
  locals : AreLocals r.tree
  init : IsInit r.tree

some_formed : (b : Base) (ts : List Token) (l : Row Stmts) → SomeLocals b ts l → HasNamedUnit (Some b) → HoldNames ts → AreDeclared l
some_formed b ts l (grammar.SomeLocals.last us p from) base h =
    let a = local_formed b us p from base h in let low = a.0.low in
    record { good = record { formed = (a.0.formed, tt); low = omega arith; names = a.0.names }; locals = (a.1, tt); init = inr a.1 }
some_formed b ts l (grammar.SomeLocals.more us vs c p m from x rest) base h =
    let a = local_formed b us p from base h in let d = next_names _ p.rest vs c x a.0.names in let e = some_formed b vs m rest base d.1 in
    let low = a.0.low in let low' = e.good.low in
    record {
      good = record { formed = (a.0.formed, e.good.formed); low = omega arith; names = e.good.names };
      locals = (a.1, e.locals);
      init = first_of p.tree m.tree a.1 e.locals;
    }
  where
    first_of : (s : Stmt) (ss : Stmts) → IsLocal s → AreLocals ss → IsInit (tree.stmt s ss)
    first_of s no_stmts one others = inr one
    first_of s (tree.stmt r rs) one others = (one, others)

locals_formed : (ts : List Token) (l : Row Stmts) → Locals ts l → HoldNames ts → AreDeclared l
locals_formed ts l (grammar.Locals.locals us b m base some) h = let a = base_names us b base h in some_formed b.tree b.rest m some a.0 a.1

enclosed_formed : (ts : List Token) (p : Part Expr) → Enclosed ts p → HoldNames ts → IsGood p
enclosed_formed ts p (grammar.enclosed us vs ws o c q x y z) h =
    let a = next_names _ us vs o x h in let g = line_formed _ vs q y a.1 in let d = next_names _ q.rest ws c z g.names in let low = g.low in
    record { formed = g.formed; low = omega arith; names = d.1 }

first_formed : (ts : List Token) (r : Row Stmts) → First ts r → HoldNames ts → AreGoodStmts r × IsInit r.tree
first_formed ts r (grammar.First.none us) h = (record { formed = tt; low = omega arith; names = h }, tt)
first_formed ts r (grammar.First.simple us p from) h =
    let a = simple_formed us p from h in let low = a.0.low in (record { formed = (a.0.formed, tt); low = omega arith; names = a.0.names }, inl a.1)
first_formed ts r (grammar.First.locals us l from) h = let a = locals_formed us l from h in (a.good, a.init)

condition_formed : (ts : List Token) (r : Row Exprs) → Condition ts r → HoldNames ts → AreGood r
condition_formed ts r (grammar.Condition.none us) h = record { formed = tt; low = omega arith; names = h }
condition_formed ts r (grammar.Condition.some us p from) h =
    let g = line_formed _ us p from h in let low = g.low in record { formed = (g.formed, tt); low = omega arith; names = g.names }

step_formed : (ts : List Token) (r : Row Stmts) → Step ts r → HoldNames ts → AreGoodStmts r × IsStep r.tree
step_formed ts r (grammar.Step.none us) h = (record { formed = tt; low = omega arith; names = h }, tt)
step_formed ts r (grammar.Step.some us p from) h =
    let a = simple_formed us p from h in let low = a.0.low in (record { formed = (a.0.formed, tt); low = omega arith; names = a.0.names }, a.1)

record IsGoodHeading (h : Row Heading) : Type 0 where
  init : IsInit h.tree.first
  first : AreFormedStmts h.tree.first
  condition : AreFormedExprs h.tree.condition
  step : IsStep h.tree.step
  steps : AreFormedStmts h.tree.step
  low_first : suc (stmts_depth h.tree.first) ≤ h.depth
  low_condition : suc (depth_of h.tree.condition) ≤ h.depth
  low_step : suc (stmts_depth h.tree.step) ≤ h.depth
  names : HoldNames h.rest

heading_formed : (ts : List Token) (h : Row Heading) → IsHeading ts h → HoldNames ts → IsGoodHeading h
heading_formed ts h (grammar.heading us vs ws xs ys o m n c f k s a b e g i j q) names =
    let a' = next_names _ us vs o a names in
    let b' = first_formed vs f b a'.1 in
    let c' = next_names _ f.rest ws m e b'.0.names in
    let d' = condition_formed ws k g c'.1 in
    let e' = next_names _ k.rest xs n i d'.names in
    let f' = step_formed xs s j e'.1 in
    let g' = next_names _ s.rest ys c q f'.0.names in
    let l = b'.0.low in let l' = d'.low in let l'' = f'.0.low in
    record {
      init = b'.1;
      first = b'.0.formed;
      condition = d'.formed;
      step = f'.1;
      steps = f'.0.formed;
      low_first = omega arith;
      low_condition = omega arith;
      low_step = omega arith;
      names = g'.1;
    }

joined_formed : (ss rs : Stmts) → AreFormedStmts ss → AreFormedStmts rs → AreFormedStmts (joined ss rs)
joined_formed no_stmts rs a b = b
joined_formed (tree.stmt s ss) rs a b = (a.0, joined_formed ss rs a.1 b)

joined_depth : (ss rs : Stmts) → stmts_depth (joined ss rs) ≤ max (stmts_depth ss) (stmts_depth rs)
joined_depth no_stmts rs = omega arith
joined_depth (tree.stmt s ss) rs = let again = joined_depth ss rs in omega arith

simple_declares : (s : Stmt) → IsSimple s → DeclaresNothing s
simple_declares (tree.assign at a b) is = tt
simple_declares (tree.do_call at e) is = tt
simple_declares (tree.free at e) is = tt
simple_declares _ is = absurd is

mutual
  pub stmt_formed : (ts : List Token) (p : Part Stmt) → IsStmt ts p → HoldNames ts → IsGoodStmt p × DeclaresNothing p.tree
  stmt_formed ts p (grammar.block_of us q brace (grammar.block o c vs ws s is x y)) h =
      let a = body_formed vs s x h.1 in let b = next_names _ s.rest ws c y a.names in let low = a.low in
      (record { formed = a.formed; low = omega arith; names = b.1 }, tt)
  stmt_formed ts p (grammar.nothing t us is) h = (record { formed = tt; low = omega arith; names = h.1 }, tt)
  stmt_formed ts p (grammar.IsStmt.simple us vs m q from x) h =
      let a = simple_formed us q from h in let b = next_names _ q.rest vs m x a.0.names in
      (record { formed = a.0.formed; low = a.0.low; names = b.1 }, simple_declares q.tree a.1)
  stmt_formed ts p (grammar.break t e us vs is x) h = let b = next_names _ us vs e x h.1 in (record { formed = tt; low = omega arith; names = b.1 }, tt)
  stmt_formed ts p (grammar.continue t e us vs is x) h = let b = next_names _ us vs e x h.1 in (record { formed = tt; low = omega arith; names = b.1 }, tt)
  stmt_formed ts p (grammar.return t e us vs is x) h = let b = next_names _ us vs e x h.1 in (record { formed = tt; low = omega arith; names = b.1 }, tt)
  stmt_formed ts p (grammar.return_of t e us vs q is x y) h =
      let a = line_formed _ us q x h.1 in let b = next_names _ q.rest vs e y a.names in let low = a.low in
      (record { formed = a.formed; low = omega arith; names = b.1 }, tt)
  stmt_formed ts p (grammar.when t us c s is x y z) h =
      let a = enclosed_formed us c x h.1 in let b = stmt_formed c.rest s y a.names in let low = a.low in let low' = b.0.low in
      (record { formed = (a.formed, b.1, b.0.formed); low = omega arith; names = b.0.names }, tt)
  stmt_formed ts p (grammar.when_else t o us vs c s e is x y z w) h =
      let a = enclosed_formed us c x h.1 in let b = stmt_formed c.rest s y a.names in let d = next_names _ s.rest vs o z b.0.names in
      let f = stmt_formed vs e w d.1 in let low = a.low in let low' = b.0.low in let low'' = f.0.low in
      (record { formed = (a.formed, b.1, b.0.formed, f.1, f.0.formed); low = omega arith; names = f.0.names }, tt)
  stmt_formed ts p (grammar.while t us c s is x y) h =
      let a = enclosed_formed us c x h.1 in let b = stmt_formed c.rest s y a.names in let low = a.low in let low' = b.0.low in
      (record { formed = (a.formed, b.1, b.0.formed); low = omega arith; names = b.0.names }, tt)
  stmt_formed ts p (grammar.for t us k s is x y) h =
      let a = heading_formed us k x h.1 in let b = stmt_formed k.rest s y a.names in
      let l = a.low_first in let l' = a.low_condition in let l'' = a.low_step in let l''' = b.0.low in
      (record { formed = (a.init, a.first, a.condition, a.step, a.steps, b.1, b.0.formed); low = omega arith; names = b.0.names }, tt)

  body_formed : (ts : List Token) (s : Row Stmts) → Body ts s → HoldNames ts → AreGoodStmts s
  body_formed ts s (grammar.Body.none us) h = record { formed = tt; low = omega arith; names = h }
  body_formed ts s (grammar.Body.locals us vs m l r x y z) h =
      let a = locals_formed us l x h in let b = next_names _ l.rest vs m y a.good.names in let c = body_formed vs r z b.1 in
      let low = a.good.low in let low' = c.low in let low'' = joined_depth l.tree r.tree in
      record { formed = joined_formed l.tree r.tree a.good.formed c.formed; low = omega arith; names = c.names }
  body_formed ts s (grammar.Body.stmt us q r x y) h =
      let a = stmt_formed us q x h in let b = body_formed q.rest r y a.0.names in let low = a.0.low in let low' = b.low in
      record { formed = (a.0.formed, b.formed); low = omega arith; names = b.names }

pub block_formed : (ts : List Token) (p : Part Stmt) (brace : Span) → Block ts p brace → HoldNames ts → IsGoodStmt p × IsBlock p.tree
block_formed ts p brace (grammar.block o c us vs s is x y) h =
    let a = body_formed us s x h.1 in let b = next_names _ s.rest vs c y a.names in let low = a.low in
    (record { formed = a.formed; low = omega arith; names = b.1 }, tt)
