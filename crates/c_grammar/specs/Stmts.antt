-- The grammar of statements:
--   block   = "{" {locals ";" | stmt} "}"
--   locals  = base local {"," local}
--   local   = [star] NAME ["=" expr]
--   stmt    = block | ";" | simple ";" | "break" ";" | "continue" ";" | "return" [expr] ";"
--           | "if" "(" expr ")" stmt ["else" stmt] | "while" "(" expr ")" stmt
--           | "for" "(" [simple | locals] ";" [expr] ";" [simple] ")" stmt
--   simple  = target "=" expr | path "++" | path "--" | NAME "(" args ")" | "free" "(" expr ")"
--   target  = NAME | postfix "->" NAME | postfix "[" expr "]"
--   path    = NAME {"->" NAME}
-- An `else` belongs to the nearest `if` that can take it. A statement is one deeper than what it holds, and so is each
-- pair of parentheses. `path++` is read as `path = path + 1`, and `path--` as `path = path - 1`.
use Rattle.std.specs.Prelude.{◌≡◌, ℕ, pos, suc, max, Bool, false, List, [], ◌∷◌, codes, bytes_eq}
use Rattle.c_tree.specs.declared.position.Span.{Span}
use Rattle.c_tree.specs.declared.tree.BinaryOp.{BinaryOp}
use Rattle.c_tree.specs.declared.tree.BinaryOp.TheVariants as op
use Rattle.c_tree.specs.declared.tree.Unit.{Unit as Base}
use Rattle.c_tree.specs.declared.tree.Member.{Member}
use Rattle.c_tree.specs.Plain.{Expr, Exprs, no_exprs, Stmt, Stmts, no_stmts}
use Rattle.c_tree.specs.Plain as tree
use Rattle.c_token.specs.declared.token.Token.{Token}
use Rattle.c_token.specs.declared.token.TokenKind.{TokenKind}
use Rattle.c_token.specs.declared.token.TokenKind.TheVariants as kind
use Rattle.c_grammar.specs.Parts.{Part, Row, Piece, join, Next}
use Rattle.c_grammar.specs.Types.{IsBase, IsDeclarator}
use Rattle.c_grammar.specs.Exprs.{leaf, arrowed, indexed, expr_line, Line, Postfix, Call}

abbrev pub joined : Stmts → Stmts → Stmts
joined no_stmts ts = ts
joined (tree.stmt s ss) ts = tree.stmt s (joined ss ts)

abbrev pub is_else_kind : TokenKind → Bool
is_else_kind (kind.Word w) = bytes_eq w (codes "else")
is_else_kind _ = false

abbrev pub begins_else : List Token → Bool
begins_else [] = false
begins_else (t ∷ ts) = is_else_kind t.kind

-- a statement of one token and its `;`
abbrev pub ended : (Span → Stmt) → Token → Token → List Token → Part Stmt
ended node t end ts = let at = join t.at end.at in record { tree = node at; at = at; depth = 1; rest = ts }

-- a statement of one expression
abbrev pub holding : (Span → Expr → Stmt) → Span → Part Expr → List Token → Part Stmt
holding node at p ts = record { tree = node at p.tree; at = at; depth = suc p.depth; rest = ts }

-- two expressions, with the operator between them or without it
abbrev pub assigned : Part Expr → Part Expr → Part Stmt
assigned l r = let at = join l.at r.at in
    record { tree = tree.assign at l.tree r.tree; at = at; depth = suc (max l.depth r.depth); rest = r.rest }

-- one more or less at a path: the made sum and its 1 have the span of the whole, both copies of the path its own
abbrev pub stepped : BinaryOp → Part Expr → Token → List Token → Part Stmt
stepped o p t ts = let at = join p.at t.at in record {
  tree = tree.assign at p.tree (tree.binary at o p.tree (tree.num at (pos 1)));
  at = at;
  depth = suc (max p.depth (suc (max p.depth 1)));
  rest = ts;
}

abbrev pub blocked : Token → Row Stmts → Token → List Token → Part Stmt
blocked opening s closing ts = let at = join opening.at closing.at in
    record { tree = tree.block at s.tree; at = at; depth = suc s.depth; rest = ts }

-- a condition and the statement that it governs
abbrev pub governed : (Span → Expr → Stmt → Stmt) → Token → Part Expr → Part Stmt → Part Stmt
governed node t c s = let at = join t.at s.at in
    record { tree = node at c.tree s.tree; at = at; depth = suc (max c.depth s.depth); rest = s.rest }

abbrev pub chosen : Token → Part Expr → Part Stmt → Part Stmt → Part Stmt
chosen t c s e = let at = join t.at e.at in
    record { tree = tree.when_else at c.tree s.tree e.tree; at = at; depth = suc (max c.depth (max s.depth e.depth)); rest = e.rest }

abbrev pub freed : Token → Part Expr → Token → List Token → Part Stmt
freed t p closing ts = let at = join t.at closing.at in
    record { tree = tree.free at p.tree; at = at; depth = suc (suc p.depth); rest = ts }

abbrev pub declared_as : Member → Part Expr → Part Stmt
declared_as d p = let at = join d.at p.at in
    record { tree = tree.local_as at d.name d.kind p.tree; at = at; depth = suc p.depth; rest = p.rest }

-- what the parentheses of a `for` hold
pub record Heading : Type 0 where
  pub first : Stmts
  pub condition : Exprs
  pub step : Stmts

abbrev pub repeated : Token → Row Heading → Part Stmt → Part Stmt
repeated t h s = let at = join t.at s.at in
    record { tree = tree.for at h.tree.first h.tree.condition h.tree.step s.tree; at = at; depth = suc (max h.depth s.depth); rest = s.rest }

-- what stands left of `=`: no parentheses are around the whole of it
pub data IsTarget : List Token → Part Expr → Type 0 where
  name : (t : Token) (ts : List Token) (x : List ℕ) → t.kind ≡ kind.Name x → IsTarget (t ∷ ts) (leaf (λ at. tree.name at x) t ts)
  arrow : (ts us vs : List Token) (t n : Token) (f : List ℕ) (p : Part Expr) → Postfix ts p
      → Next (kind.Mark (codes "->")) p.rest t us → Next (kind.Name f) us n vs → IsTarget ts (arrowed p n f vs)
  index : (ts us vs : List Token) (opening closing : Token) (p i : Part Expr) → Postfix ts p
      → Next (kind.Mark (codes "[")) p.rest opening us → Line expr_line us i → Next (kind.Mark (codes "]")) i.rest closing vs
      → IsTarget ts (indexed p i closing vs)

pub data IsPath : List Token → Part Expr → Type 0 where
  name : (t : Token) (ts : List Token) (x : List ℕ) → t.kind ≡ kind.Name x → IsPath (t ∷ ts) (leaf (λ at. tree.name at x) t ts)
  arrow : (ts us vs : List Token) (t n : Token) (f : List ℕ) (p : Part Expr) → IsPath ts p
      → Next (kind.Mark (codes "->")) p.rest t us → Next (kind.Name f) us n vs → IsPath ts (arrowed p n f vs)

pub data Simple : List Token → Part Stmt → Type 0 where
  assign : (ts us : List Token) (t : Token) (l r : Part Expr) → IsTarget ts l → Next (kind.Mark (codes "=")) l.rest t us
      → Line expr_line us r → Simple ts (assigned l r)
  increment : (ts us : List Token) (t : Token) (p : Part Expr) → IsPath ts p → Next (kind.Mark (codes "++")) p.rest t us
      → Simple ts (stepped op.Add p t us)
  decrement : (ts us : List Token) (t : Token) (p : Part Expr) → IsPath ts p → Next (kind.Mark (codes "--")) p.rest t us
      → Simple ts (stepped op.Sub p t us)
  call : (ts : List Token) (p : Part Expr) → Call ts p → Simple ts (holding tree.do_call p.at p p.rest)
  free : (t opening closing : Token) (ts us vs : List Token) (p : Part Expr) → t.kind ≡ kind.Word (codes "free")
      → Next (kind.Mark (codes "(")) ts opening us → Line expr_line us p → Next (kind.Mark (codes ")")) p.rest closing vs
      → Simple (t ∷ ts) (freed t p closing vs)

-- a declarator after this base; its span runs from the star to the end of the initialiser
pub data Local (b : Base) : List Token → Part Stmt → Type 0 where
  plain : (ts us : List Token) (d : Member) → IsDeclarator b ts d us
      → Local b ts (record { tree = tree.local d.at d.name d.kind; at = d.at; depth = 1; rest = us })
  initialised : (ts us vs : List Token) (t : Token) (d : Member) (p : Part Expr) → IsDeclarator b ts d us
      → Next (kind.Mark (codes "=")) us t vs → Line expr_line vs p
      → Local b ts (declared_as d p)

-- local {"," local}
pub data SomeLocals (b : Base) : List Token → Row Stmts → Type 0 where
  last : (ts : List Token) (p : Part Stmt) → Local b ts p
      → SomeLocals b ts (record { tree = tree.stmt p.tree no_stmts; depth = p.depth; rest = p.rest })
  more : (ts us : List Token) (comma : Token) (p : Part Stmt) (l : Row Stmts) → Local b ts p
      → Next (kind.Mark (codes ",")) p.rest comma us → SomeLocals b us l
      → SomeLocals b ts (record { tree = tree.stmt p.tree l.tree; depth = max p.depth l.depth; rest = l.rest })

pub data Locals : List Token → Row Stmts → Type 0 where
  locals : (ts : List Token) (b : Piece Base) (l : Row Stmts) → IsBase ts b → SomeLocals b.tree b.rest l → Locals ts l

-- the three parts of a `for`: [simple | locals], [expr] and [simple]
pub data First : List Token → Row Stmts → Type 0 where
  none : (ts : List Token) → First ts (record { tree = no_stmts; depth = 0; rest = ts })
  simple : (ts : List Token) (p : Part Stmt) → Simple ts p
      → First ts (record { tree = tree.stmt p.tree no_stmts; depth = p.depth; rest = p.rest })
  locals : (ts : List Token) (l : Row Stmts) → Locals ts l → First ts l

pub data Condition : List Token → Row Exprs → Type 0 where
  none : (ts : List Token) → Condition ts (record { tree = no_exprs; depth = 0; rest = ts })
  some : (ts : List Token) (p : Part Expr) → Line expr_line ts p
      → Condition ts (record { tree = tree.expr p.tree no_exprs; depth = p.depth; rest = p.rest })

pub data Step : List Token → Row Stmts → Type 0 where
  none : (ts : List Token) → Step ts (record { tree = no_stmts; depth = 0; rest = ts })
  some : (ts : List Token) (p : Part Stmt) → Simple ts p
      → Step ts (record { tree = tree.stmt p.tree no_stmts; depth = p.depth; rest = p.rest })

-- "(" expr ")": the pair counts as one
pub data Enclosed : List Token → Part Expr → Type 0 where
  enclosed : (ts us vs : List Token) (opening closing : Token) (p : Part Expr) → Next (kind.Mark (codes "(")) ts opening us
      → Line expr_line us p → Next (kind.Mark (codes ")")) p.rest closing vs
      → Enclosed ts (record { tree = p.tree; at = join opening.at closing.at; depth = suc p.depth; rest = vs })

-- "(" [simple | locals] ";" [expr] ";" [simple] ")"
pub data IsHeading : List Token → Row Heading → Type 0 where
  heading : (ts us vs ws xs : List Token) (opening semicolon semicolon' closing : Token) (f : Row Stmts) (c : Row Exprs) (s : Row Stmts)
      → Next (kind.Mark (codes "(")) ts opening us → First us f → Next (kind.Mark (codes ";")) f.rest semicolon vs
      → Condition vs c → Next (kind.Mark (codes ";")) c.rest semicolon' ws → Step ws s → Next (kind.Mark (codes ")")) s.rest closing xs
      → IsHeading ts (record {
        tree = record { first = f.tree; condition = c.tree; step = s.tree };
        depth = suc (max f.depth (max c.depth s.depth));
        rest = xs;
      })

mutual
  -- with the span of its closing brace
  pub data Block : List Token → Part Stmt → Span → Type 0 where
    block : (opening closing : Token) (ts us : List Token) (s : Row Stmts) → opening.kind ≡ kind.Mark (codes "{") → Body ts s
        → Next (kind.Mark (codes "}")) s.rest closing us → Block (opening ∷ ts) (blocked opening s closing us) closing.at

  -- {locals ";" | stmt}
  pub data Body : List Token → Row Stmts → Type 0 where
    none : (ts : List Token) → Body ts (record { tree = no_stmts; depth = 0; rest = ts })
    locals : (ts us : List Token) (semicolon : Token) (l s : Row Stmts) → Locals ts l → Next (kind.Mark (codes ";")) l.rest semicolon us
        → Body us s → Body ts (record { tree = joined l.tree s.tree; depth = max l.depth s.depth; rest = s.rest })
    stmt : (ts : List Token) (p : Part Stmt) (s : Row Stmts) → IsStmt ts p → Body p.rest s
        → Body ts (record { tree = tree.stmt p.tree s.tree; depth = max p.depth s.depth; rest = s.rest })

  -- the span of a simple statement is without its `;`
  pub data IsStmt : List Token → Part Stmt → Type 0 where
    block_of : (ts : List Token) (p : Part Stmt) (brace : Span) → Block ts p brace → IsStmt ts p
    nothing : (t : Token) (ts : List Token) → t.kind ≡ kind.Mark (codes ";")
        → IsStmt (t ∷ ts) (record { tree = tree.nothing t.at; at = t.at; depth = 1; rest = ts })
    simple : (ts us : List Token) (semicolon : Token) (p : Part Stmt) → Simple ts p → Next (kind.Mark (codes ";")) p.rest semicolon us
        → IsStmt ts (record { tree = p.tree; at = join p.at semicolon.at; depth = p.depth; rest = us })
    break : (t end : Token) (ts us : List Token) → t.kind ≡ kind.Word (codes "break") → Next (kind.Mark (codes ";")) ts end us
        → IsStmt (t ∷ ts) (ended tree.break t end us)
    continue : (t end : Token) (ts us : List Token) → t.kind ≡ kind.Word (codes "continue") → Next (kind.Mark (codes ";")) ts end us
        → IsStmt (t ∷ ts) (ended tree.continue t end us)
    return : (t end : Token) (ts us : List Token) → t.kind ≡ kind.Word (codes "return") → Next (kind.Mark (codes ";")) ts end us
        → IsStmt (t ∷ ts) (ended tree.return t end us)
    return_of : (t end : Token) (ts us : List Token) (p : Part Expr) → t.kind ≡ kind.Word (codes "return") → Line expr_line ts p
        → Next (kind.Mark (codes ";")) p.rest end us → IsStmt (t ∷ ts) (holding tree.return_of (join t.at end.at) p us)
    -- where an `else` follows, this `if` could take it
    when : (t : Token) (ts : List Token) (c : Part Expr) (s : Part Stmt) → t.kind ≡ kind.Word (codes "if") → Enclosed ts c
        → IsStmt c.rest s → begins_else s.rest ≡ false
        → IsStmt (t ∷ ts) (governed tree.when t c s)
    when_else : (t other : Token) (ts us : List Token) (c : Part Expr) (s e : Part Stmt) → t.kind ≡ kind.Word (codes "if") → Enclosed ts c
        → IsStmt c.rest s → Next (kind.Word (codes "else")) s.rest other us → IsStmt us e
        → IsStmt (t ∷ ts) (chosen t c s e)
    while : (t : Token) (ts : List Token) (c : Part Expr) (s : Part Stmt) → t.kind ≡ kind.Word (codes "while") → Enclosed ts c
        → IsStmt c.rest s
        → IsStmt (t ∷ ts) (governed tree.while t c s)
    for : (t : Token) (ts : List Token) (h : Row Heading) (s : Part Stmt) → t.kind ≡ kind.Word (codes "for") → IsHeading ts h
        → IsStmt h.rest s
        → IsStmt (t ∷ ts) (repeated t h s)
