-- What a parser reads of a statement, by recursion on the depth that is left to it.
use Rattle.std.specs.Prelude.{ℕ, zero, suc, max, Bool, true, false, if◌then◌else◌, nat_lt, List, [], ◌∷◌, length, Option, Some, None, option_and_then, codes}
use Rattle.c_tree.specs.declared.position.Span.{Span}
use Rattle.c_tree.specs.declared.tree.BinaryOp.{BinaryOp}
use Rattle.c_tree.specs.declared.tree.BinaryOp.TheVariants as op
use Rattle.c_tree.specs.declared.tree.TypeName.{TypeName}
use Rattle.c_tree.specs.declared.tree.Unit.{Unit as Base}
use Rattle.c_tree.specs.declared.tree.Member.{Member}
use Rattle.c_tree.specs.Plain.{Expr, Exprs, no_exprs, Stmt, Stmts, no_stmts}
use Rattle.c_tree.specs.Plain as tree
use Rattle.c_token.specs.declared.token.Token.{Token}
use Rattle.c_token.specs.declared.token.TokenKind.{TokenKind}
use Rattle.c_token.specs.declared.token.TokenKind.TheVariants as kind
use Rattle.c_grammar.specs.Parts.{Part, Row, join}
use Rattle.c_grammar.specs.Types.{type_of}
use Rattle.c_grammar.specs.Exprs.{expr_line}
use Rattle.c_grammar.specs.Stmts.{joined, ended, holding, assigned, stepped, blocked, governed, chosen, declared_as, Heading, repeated}
use Rattle.c_grammar.specs.Reading.{is_mark, is_word, Front, Named, after_mark, after_word, after_name, Stretch, read_base, read_star}
use Rattle.c_grammar.specs.ReadExprs.{Reader, Stage, stage, begins_base, read_primary, steps, Way, no_way, way}

-- a declarator and what comes after it
pub record Declared : Type 0 where
  pub member : Member
  pub rest : List Token

abbrev pub declared : Named → Span → TypeName → Option Declared
declared n at k = Some (record { member = record { name = n.name; kind = k; at = at }; rest = n.rest })

abbrev pub plain_declarator : Base → Named → Option Declared
plain_declarator b n = option_and_then (declared n n.token.at) (type_of b false)

abbrev pub starred_declarator : Base → Span → Named → Option Declared
starred_declarator b at n = option_and_then (declared n (join at n.token.at)) (type_of b true)

abbrev pub declarator_at : Base → List Token → Option Stretch → Option Declared
declarator_at b ts None = option_and_then (plain_declarator b) (after_name ts)
declarator_at b ts (Some s) = option_and_then (starred_declarator b s.at) (after_name s.rest)

abbrev pub read_declarator : Base → List Token → Option Declared
read_declarator b ts = declarator_at b ts (read_star ts)

abbrev pub initialised : Member → Part Expr → Option (Part Stmt)
initialised m p = Some (declared_as m p)

abbrev pub local_at : ℕ → Declared → Option Front → Option (Part Stmt)
local_at d q None = Some (record { tree = tree.local q.member.at q.member.name q.member.kind; at = q.member.at; depth = 1; rest = q.rest })
local_at d q (Some f) = option_and_then (initialised q.member) ((stage d).line expr_line f.rest)

abbrev pub read_local : ℕ → Base → List Token → Option (Part Stmt)
read_local zero b ts = None
read_local (suc d) b ts = option_and_then (λ q. local_at d q (after_mark (codes "=") q.rest)) (read_declarator b ts)

abbrev pub one_stmt : Part Stmt → Row Stmts
one_stmt p = record { tree = tree.stmt p.tree no_stmts; depth = p.depth; rest = p.rest }

abbrev pub more_stmts : Part Stmt → Row Stmts → Option (Row Stmts)
more_stmts p l = Some (record { tree = tree.stmt p.tree l.tree; depth = max p.depth l.depth; rest = l.rest })

abbrev pub locals_after : (List Token → Option (Row Stmts)) → Part Stmt → Option Front → Option (Row Stmts)
locals_after next p None = Some (one_stmt p)
locals_after next p (Some q) = option_and_then (more_stmts p) (next q.rest)

-- at most so many
abbrev pub some_locals : ℕ → ℕ → Base → List Token → Option (Row Stmts)
some_locals zero limit b ts = None
some_locals (suc n) limit b ts = option_and_then (λ p. locals_after (some_locals n limit b) p (after_mark (codes ",") p.rest)) (read_local limit b ts)

abbrev pub read_locals : ℕ → List Token → Option (Row Stmts)
read_locals limit ts = option_and_then (λ b. some_locals (length b.rest) limit b.tree b.rest) (read_base ts)

-- "(" expr ")"
abbrev pub closed_expr : Front → Part Expr → Option (Part Expr)
closed_expr o p = option_and_then (λ c. Some (record { tree = p.tree; at = join o.token.at c.token.at; depth = suc p.depth; rest = c.rest })) (after_mark (codes ")") p.rest)

abbrev pub read_enclosed : ℕ → Reader
read_enclosed zero ts = None
read_enclosed (suc d) ts = option_and_then (λ o. option_and_then (closed_expr o) ((stage d).line expr_line o.rest)) (after_mark (codes "(") ts)

-- simple: what an expression at the front of it can be
abbrev pub is_path : Expr → Bool
is_path (tree.name at x) = true
is_path (tree.arrow at b f) = is_path b
is_path _ = false

abbrev pub assign_to : ℕ → Part Expr → Front → Option (Part Stmt)
assign_to d l q = option_and_then (λ r. Some (assigned l r)) ((stage d).line expr_line q.rest)

pub data Change : Type 0 where
  by_assign : Front → Change
  by_one : BinaryOp → Front → Change
  no_change : Change

abbrev pub change_less : Option Front → Change
change_less None = no_change
change_less (Some q) = by_one op.Sub q

abbrev pub change_more : List Token → Option Front → Change
change_more ts None = change_less (after_mark (codes "--") ts)
change_more ts (Some q) = by_one op.Add q

abbrev pub change_at : List Token → Option Front → Change
change_at ts None = change_more ts (after_mark (codes "++") ts)
change_at ts (Some q) = by_assign q

abbrev pub change : List Token → Change
change ts = change_at ts (after_mark (codes "=") ts)

abbrev pub step_one : ℕ → Part Expr → BinaryOp → Front → Option (Part Stmt)
step_one d p o q = if nat_lt p.depth d then Some (stepped o p q.token q.rest) else None

-- a target, which may be a path
abbrev pub changed : ℕ → Bool → Part Expr → Change → Option (Part Stmt)
changed d path p (by_assign q) = assign_to d p q
changed d path p (by_one o q) = if path then step_one d p o q else None
changed d path p no_change = None

abbrev pub from_target : ℕ → Bool → Part Expr → Option (Part Stmt)
from_target d named p = changed d (if named then is_path p.tree else false) p (change p.rest)

-- a primary that no step follows: only a name or a call goes on
abbrev pub from_tree : ℕ → Part Expr → Expr → Option (Part Stmt)
from_tree d p (tree.name at x) = from_target d true p
from_tree d p (tree.call at f es) = Some (holding tree.do_call p.at p p.rest)
from_tree d p _ = None

abbrev pub from_way : ℕ → Stage → Bool → Part Expr → Way → Option (Part Stmt)
from_way d s named p no_way = if named then from_tree (suc d) p p.tree else None
from_way d s named p w = option_and_then (from_target (suc d) named) (steps (suc d) (s.line expr_line) d p)

abbrev pub from_primary : ℕ → Stage → Bool → Part Expr → Option (Part Stmt)
from_primary d s named p = from_way d s named p (way p.rest)

abbrev pub is_name : TokenKind → Bool
is_name (kind.Name x) = true
is_name _ = false

abbrev pub free_closed : Token → Part Expr → Option (Part Stmt)
free_closed t p = Some (record { tree = tree.free (join t.at p.at) p.tree; at = join t.at p.at; depth = suc p.depth; rest = p.rest })

-- with one level left for the statement and so many for what it holds
abbrev pub simple_in : ℕ → Token → List Token → Option (Part Stmt)
simple_in zero t ts = None
simple_in (suc e) t ts = if is_word (codes "free") t.kind then option_and_then (free_closed t) (read_enclosed (suc e) ts)
    else option_and_then (from_primary e (stage e) (is_name t.kind)) (read_primary (stage e) (t ∷ ts))

abbrev pub read_simple : ℕ → List Token → Option (Part Stmt)
read_simple zero ts = None
read_simple (suc d) [] = None
read_simple (suc d) (t ∷ ts) = simple_in d t ts

-- the three parts of a `for`
abbrev pub no_row : {X : Type 0} → X → List Token → Option (Row X)
no_row x ts = Some (record { tree = x; depth = 0; rest = ts })

abbrev pub first_row : Part Stmt → Option (Row Stmts)
first_row p = Some (one_stmt p)

abbrev pub first_at : ℕ → List Token → Option Front → Option (Row Stmts)
first_at d ts (Some q) = no_row no_stmts ts
first_at d ts None = if begins_base ts then read_locals d ts else option_and_then first_row (read_simple d ts)

abbrev pub read_first : ℕ → List Token → Option (Row Stmts)
read_first d ts = first_at d ts (after_mark (codes ";") ts)

abbrev pub condition_row : Part Expr → Option (Row Exprs)
condition_row p = Some (record { tree = tree.expr p.tree no_exprs; depth = p.depth; rest = p.rest })

abbrev pub condition_at : ℕ → List Token → Option Front → Option (Row Exprs)
condition_at d ts (Some q) = no_row no_exprs ts
condition_at d ts None = option_and_then condition_row ((stage d).line expr_line ts)

abbrev pub read_condition : ℕ → List Token → Option (Row Exprs)
read_condition d ts = condition_at d ts (after_mark (codes ";") ts)

abbrev pub step_at : ℕ → List Token → Option Front → Option (Row Stmts)
step_at d ts (Some q) = no_row no_stmts ts
step_at d ts None = option_and_then first_row (read_simple d ts)

abbrev pub read_step : ℕ → List Token → Option (Row Stmts)
read_step d ts = step_at d ts (after_mark (codes ")") ts)

abbrev pub heading_closed : Row Stmts → Row Exprs → Row Stmts → Option (Row Heading)
heading_closed f c s = option_and_then (λ q. Some (record {
  tree = record { first = f.tree; condition = c.tree; step = s.tree };
  depth = suc (max f.depth (max c.depth s.depth));
  rest = q.rest;
})) (after_mark (codes ")") s.rest)

abbrev pub heading_step : ℕ → Row Stmts → Row Exprs → Option (Row Heading)
heading_step d f c = option_and_then (λ q. option_and_then (heading_closed f c) (read_step d q.rest)) (after_mark (codes ";") c.rest)

abbrev pub heading_condition : ℕ → Row Stmts → Option (Row Heading)
heading_condition d f = option_and_then (λ q. option_and_then (heading_step d f) (read_condition d q.rest)) (after_mark (codes ";") f.rest)

abbrev pub read_heading : ℕ → List Token → Option (Row Heading)
read_heading zero ts = None
read_heading (suc d) ts = option_and_then (λ q. option_and_then (heading_condition d) (read_first d q.rest)) (after_mark (codes "(") ts)

-- blocks and statements
abbrev pub Statements : Type 0
Statements = List Token → Option (Part Stmt)

abbrev pub after_locals : Row Stmts → Row Stmts → Option (Row Stmts)
after_locals l s = Some (record { tree = joined l.tree s.tree; depth = max l.depth s.depth; rest = s.rest })

abbrev pub body_at : (List Token → Option (Row Stmts)) → Statements → ℕ → List Token → Option Front → Option (Row Stmts)
body_at next read d ts (Some q) = no_row no_stmts ts
body_at next read d ts None = if begins_base ts
    then option_and_then (λ l. option_and_then (λ q. option_and_then (after_locals l) (next q.rest)) (after_mark (codes ";") l.rest)) (read_locals d ts)
    else option_and_then (λ p. option_and_then (more_stmts p) (next p.rest)) (read ts)

-- at most so many
abbrev pub body : ℕ → Statements → ℕ → List Token → Option (Row Stmts)
body zero read d ts = None
body (suc n) read d ts = body_at (body n read d) read d ts (after_mark (codes "}") ts)

pub record Braced : Type 0 where
  pub part : Part Stmt
  pub brace : Span

abbrev pub block_closed : Token → Row Stmts → Option Braced
block_closed t s = option_and_then (λ q. Some (record { part = blocked t s q.token q.rest; brace = q.token.at })) (after_mark (codes "}") s.rest)

abbrev pub block_after : Statements → ℕ → Front → Option Braced
block_after read d o = option_and_then (block_closed o.token) (body (suc (length o.rest)) read d o.rest)

abbrev pub block_by : Statements → ℕ → List Token → Option Braced
block_by read d ts = option_and_then (block_after read d) (after_mark (codes "{") ts)

abbrev pub whole : Braced → Option (Part Stmt)
whole b = Some b.part

abbrev pub word_end : (Span → Stmt) → Token → List Token → Option (Part Stmt)
word_end node t ts = option_and_then (λ q. Some (ended node t q.token q.rest)) (after_mark (codes ";") ts)

abbrev pub return_closed : Token → Part Expr → Option (Part Stmt)
return_closed t p = option_and_then (λ q. Some (holding tree.return_of (join t.at q.token.at) p q.rest)) (after_mark (codes ";") p.rest)

abbrev pub return_at : ℕ → Token → List Token → Option Front → Option (Part Stmt)
return_at d t ts (Some q) = Some (ended tree.return t q.token q.rest)
return_at d t ts None = option_and_then (return_closed t) ((stage d).line expr_line ts)

abbrev pub when_at : Statements → Token → Part Expr → Part Stmt → Option Front → Option (Part Stmt)
when_at read t c s None = Some (governed tree.when t c s)
when_at read t c s (Some q) = option_and_then (λ e. Some (chosen t c s e)) (read q.rest)

abbrev pub when_after : Statements → Token → Part Expr → Option (Part Stmt)
when_after read t c = option_and_then (λ s. when_at read t c s (after_word (codes "else") s.rest)) (read c.rest)

abbrev pub while_after : Statements → Token → Part Expr → Option (Part Stmt)
while_after read t c = option_and_then (λ s. Some (governed tree.while t c s)) (read c.rest)

abbrev pub for_after : Statements → Token → Row Heading → Option (Part Stmt)
for_after read t h = option_and_then (λ s. Some (repeated t h s)) (read h.rest)

abbrev pub simple_closed : Part Stmt → Option (Part Stmt)
simple_closed p = option_and_then (λ q. Some (record { tree = p.tree; at = join p.at q.token.at; depth = p.depth; rest = q.rest })) (after_mark (codes ";") p.rest)

abbrev pub stmt_at : Statements → ℕ → Token → List Token → Option (Part Stmt)
stmt_at read d t ts =
    if is_mark (codes "{") t.kind then option_and_then whole (block_after read d (record { token = t; rest = ts }))
    else (if is_mark (codes ";") t.kind then Some (record { tree = tree.nothing t.at; at = t.at; depth = 1; rest = ts })
    else (if is_word (codes "break") t.kind then word_end tree.break t ts
    else (if is_word (codes "continue") t.kind then word_end tree.continue t ts
    else (if is_word (codes "return") t.kind then return_at d t ts (after_mark (codes ";") ts)
    else (if is_word (codes "if") t.kind then option_and_then (when_after read t) (read_enclosed d ts)
    else (if is_word (codes "while") t.kind then option_and_then (while_after read t) (read_enclosed d ts)
    else (if is_word (codes "for") t.kind then option_and_then (for_after read t) (read_heading d ts)
    else option_and_then simple_closed (read_simple (suc d) (t ∷ ts)))))))))

abbrev pub stmt_by : Statements → ℕ → List Token → Option (Part Stmt)
stmt_by read d [] = None
stmt_by read d (t ∷ ts) = stmt_at read d t ts

unfoldable pub read_stmt : ℕ → Statements
read_stmt zero ts = None
read_stmt (suc d) ts = stmt_by (read_stmt d) d ts

abbrev pub read_block : ℕ → List Token → Option Braced
read_block zero ts = None
read_block (suc d) ts = block_by (read_stmt d) d ts
