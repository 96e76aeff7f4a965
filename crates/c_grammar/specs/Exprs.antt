-- The grammar of expressions:
--   args    = [] | expr {"," expr}
--   expr    = and {"||" and}
--   and     = equal {"&&" equal}
--   equal   = order {("==" | "!=") order}
--   order   = sum {("<" | "<=" | ">" | ">=") sum}
--   sum     = product {("+" | "-") product}
--   product = unary {("*" | "/" | "%") unary}
--   unary   = "!" unary | "-" unary | postfix
--   postfix = primary {"->" NAME | "[" expr "]"}
--   primary = NUMBER | CHAR | STRING | "NULL" | NAME | NAME "(" args ")" | new | "(" expr ")"
--   new     = ["(" base star ")"] ("malloc" "(" size ")" | "calloc" "(" expr "," (unit | "1") ")")
--   size    = unit | product "*" unit | unit "*" product | expr
--   unit    = "sizeof" "(" base ")" | "sizeof" "*" NAME | "sizeof" "(" "*" NAME ")"
-- A node is one deeper than what it holds, and so is each pair of parentheses; brackets do not count. A node's span
-- runs from its first to its last token, without the parentheses around it.
use Rattle.std.specs.Prelude.{◌≡◌, ℕ, ℤ, pos, zero, suc, max, Bool, true, false, if◌then◌else◌, List, ◌∷◌, Option, Some, None, codes, bytes_eq}
use Rattle.c_tree.specs.declared.position.Span.{Span}
use Rattle.c_tree.specs.declared.tree.TypeName.{TypeName}
use Rattle.c_tree.specs.declared.tree.BinaryOp.{BinaryOp}
use Rattle.c_tree.specs.declared.tree.BinaryOp.TheVariants as op
use Rattle.c_tree.specs.declared.tree.Unit.{Unit as Measured}
use Rattle.c_tree.specs.declared.tree.Unit.TheVariants as measured
use Rattle.c_tree.specs.Plain.{Expr, Exprs, no_exprs}
use Rattle.c_tree.specs.Plain as tree
use Rattle.c_token.specs.declared.token.Token.{Token}
use Rattle.c_token.specs.declared.token.TokenKind.{TokenKind}
use Rattle.c_token.specs.declared.token.TokenKind.TheVariants as kind
use Rattle.c_grammar.specs.Parts.{Part, Row, Piece, join, Next}
use Rattle.c_grammar.specs.Types.{IsBase, IsStar, type_of}

-- the lines of the grammar with operators between two operands, from the tightest; line 0 is `unary`
abbrev pub product_line : ℕ
product_line = 1

abbrev pub expr_line : ℕ
expr_line = 6

pub record Operator : Type 0 where
  pub line : ℕ
  pub op : BinaryOp

-- the operator that a mark is between two operands, and its line
abbrev pub operator_of : List ℕ → Option Operator
operator_of m =
    if bytes_eq m (codes "*") then Some (record { line = 1; op = op.Mul })
    else (if bytes_eq m (codes "/") then Some (record { line = 1; op = op.Div })
    else (if bytes_eq m (codes "%") then Some (record { line = 1; op = op.Rem })
    else (if bytes_eq m (codes "+") then Some (record { line = 2; op = op.Add })
    else (if bytes_eq m (codes "-") then Some (record { line = 2; op = op.Sub })
    else (if bytes_eq m (codes "<") then Some (record { line = 3; op = op.Lt })
    else (if bytes_eq m (codes "<=") then Some (record { line = 3; op = op.Le })
    else (if bytes_eq m (codes ">") then Some (record { line = 3; op = op.Gt })
    else (if bytes_eq m (codes ">=") then Some (record { line = 3; op = op.Ge })
    else (if bytes_eq m (codes "==") then Some (record { line = 4; op = op.Eq })
    else (if bytes_eq m (codes "!=") then Some (record { line = 4; op = op.Ne })
    else (if bytes_eq m (codes "&&") then Some (record { line = 5; op = op.And })
    else (if bytes_eq m (codes "||") then Some (record { line = 6; op = op.Or })
    else None))))))))))))

abbrev pub operator : TokenKind → Option Operator
operator (kind.Mark m) = operator_of m
operator _ = None

-- a node of one token
abbrev pub leaf : (Span → Expr) → Token → List Token → Part Expr
leaf node t ts = record { tree = node t.at; at = t.at; depth = 1; rest = ts }

-- two operands with their operator: the whole is one deeper than the deeper of them
abbrev pub operation : BinaryOp → Part Expr → Part Expr → Part Expr
operation op l r = let at = join l.at r.at in
    record { tree = tree.binary at op l.tree r.tree; at = at; depth = suc (max l.depth r.depth); rest = r.rest }

abbrev pub negation : (Span → Expr → Expr) → Token → Part Expr → Part Expr
negation node t p = let at = join t.at p.at in
    record { tree = node at p.tree; at = at; depth = suc p.depth; rest = p.rest }

-- `-> NAME` after its base, and `[ expr ]` up to this bracket
abbrev pub arrowed : Part Expr → Token → List ℕ → List Token → Part Expr
arrowed p n f ts = let at = join p.at n.at in
    record { tree = tree.arrow at p.tree f; at = at; depth = suc p.depth; rest = ts }

abbrev pub indexed : Part Expr → Part Expr → Token → List Token → Part Expr
indexed p i closing ts = let at = join p.at closing.at in
    record { tree = tree.index at p.tree i.tree; at = at; depth = suc (max p.depth i.depth); rest = ts }

-- the same tree in parentheses
abbrev pub in_parentheses : Token → Part Expr → Token → List Token → Part Expr
in_parentheses opening p closing ts = record { tree = p.tree; at = join opening.at closing.at; depth = suc p.depth; rest = ts }

-- the node of a call holds the parentheses, and these hold the arguments
abbrev pub called : Token → List ℕ → Row Exprs → Token → List Token → Part Expr
called t f args closing ts = let at = join t.at closing.at in
    record { tree = tree.call at f args.tree; at = at; depth = suc (suc args.depth); rest = ts }

-- what an allocation asks for: calloc or malloc, what is measured, and how many of these
pub record Request : Type 0 where
  pub zeroed : Bool
  pub unit : Option Measured
  pub count : Option Expr

abbrev pub request : Bool → Option Measured → Option Expr → Request
request zeroed unit count = record { zeroed = zeroed; unit = unit; count = count }

abbrev pub requested : Option TypeName → Request → Span → Option Expr → Expr
requested cast r at None = tree.new at (record { cast = cast; zeroed = r.zeroed; unit = r.unit })
requested cast r at (Some count) = tree.new_of at (record { cast = cast; zeroed = r.zeroed; unit = r.unit }) count

-- the node of an allocation, whose span is given: a cast's parentheses hold nothing, so they are never the deepest
abbrev pub allocated : Option TypeName → Span → Part Request → Part Expr
allocated cast at p = record { tree = requested cast p.tree at p.tree.count; at = at; depth = suc p.depth; rest = p.rest }

pub data IsUnit : List Token → Row Measured → Type 0 where
  type : (t opening closing : Token) (ts us vs : List Token) (b : Piece Measured) → t.kind ≡ kind.Word (codes "sizeof")
      → Next (kind.Mark (codes "(")) ts opening us → IsBase us b → Next (kind.Mark (codes ")")) b.rest closing vs
      → IsUnit (t ∷ ts) (record { tree = b.tree; depth = 1; rest = vs })
  behind : (t star n : Token) (ts us vs : List Token) (x : List ℕ) → t.kind ≡ kind.Word (codes "sizeof")
      → Next (kind.Mark (codes "*")) ts star us → Next (kind.Name x) us n vs
      → IsUnit (t ∷ ts) (record { tree = measured.Behind x; depth = 0; rest = vs })
  behind_enclosed : (t opening star n closing : Token) (ts us vs ws xs : List Token) (x : List ℕ) → t.kind ≡ kind.Word (codes "sizeof")
      → Next (kind.Mark (codes "(")) ts opening us → Next (kind.Mark (codes "*")) us star vs → Next (kind.Name x) vs n ws
      → Next (kind.Mark (codes ")")) ws closing xs
      → IsUnit (t ∷ ts) (record { tree = measured.Behind x; depth = 1; rest = xs })

mutual
  pub data Args : List Token → Row Exprs → Type 0 where
    none : (ts : List Token) → Args ts (record { tree = no_exprs; depth = 0; rest = ts })
    some : (ts : List Token) (a : Row Exprs) → SomeArgs ts a → Args ts a

  pub data SomeArgs : List Token → Row Exprs → Type 0 where
    last : (ts : List Token) (p : Part Expr) → Line expr_line ts p
        → SomeArgs ts (record { tree = tree.expr p.tree no_exprs; depth = p.depth; rest = p.rest })
    more : (ts us : List Token) (comma : Token) (p : Part Expr) (a : Row Exprs) → Line expr_line ts p
        → Next (kind.Mark (codes ",")) p.rest comma us → SomeArgs us a
        → SomeArgs ts (record { tree = tree.expr p.tree a.tree; depth = max p.depth a.depth; rest = a.rest })

  -- `expr`, `and`, `equal`, `order`, `sum` and `product`, by their number, down to `unary`
  pub data Line : ℕ → List Token → Part Expr → Type 0 where
    operand : (k : ℕ) (ts : List Token) (p : Part Expr) → Line k ts p → Line (suc k) ts p
    operation_of : (k : ℕ) (ts us : List Token) (t : Token) (o : BinaryOp) (l r : Part Expr) → Line (suc k) ts l → l.rest ≡ t ∷ us
        → operator t.kind ≡ Some (record { line = suc k; op = o }) → Line k us r → Line (suc k) ts (operation o l r)
    unary : (ts : List Token) (p : Part Expr) → Unary ts p → Line zero ts p

  pub data Unary : List Token → Part Expr → Type 0 where
    not_of : (t : Token) (ts : List Token) (p : Part Expr) → t.kind ≡ kind.Mark (codes "!") → Unary ts p
        → Unary (t ∷ ts) (negation tree.not_of t p)
    neg : (t : Token) (ts : List Token) (p : Part Expr) → t.kind ≡ kind.Mark (codes "-") → Unary ts p
        → Unary (t ∷ ts) (negation tree.neg t p)
    postfix : (ts : List Token) (p : Part Expr) → Postfix ts p → Unary ts p

  pub data Postfix : List Token → Part Expr → Type 0 where
    primary : (ts : List Token) (p : Part Expr) → Primary ts p → Postfix ts p
    arrow : (ts us vs : List Token) (t n : Token) (f : List ℕ) (p : Part Expr) → Postfix ts p
        → Next (kind.Mark (codes "->")) p.rest t us → Next (kind.Name f) us n vs → Postfix ts (arrowed p n f vs)
    index : (ts us vs : List Token) (opening closing : Token) (p i : Part Expr) → Postfix ts p
        → Next (kind.Mark (codes "[")) p.rest opening us → Line expr_line us i → Next (kind.Mark (codes "]")) i.rest closing vs
        → Postfix ts (indexed p i closing vs)

  pub data Primary : List Token → Part Expr → Type 0 where
    number : (t : Token) (ts : List Token) (z : ℤ) → t.kind ≡ kind.Num z → Primary (t ∷ ts) (leaf (λ at. tree.num at z) t ts)
    char : (t : Token) (ts : List Token) (z : ℤ) → t.kind ≡ kind.Char z → Primary (t ∷ ts) (leaf (λ at. tree.num at z) t ts)
    string : (t : Token) (ts : List Token) (units : List ℕ) → t.kind ≡ kind.Text units → Primary (t ∷ ts) (leaf (λ at. tree.text at units) t ts)
    null : (t : Token) (ts : List Token) → t.kind ≡ kind.Word (codes "NULL") → Primary (t ∷ ts) (leaf tree.null t ts)
    name : (t : Token) (ts : List Token) (x : List ℕ) → t.kind ≡ kind.Name x → Primary (t ∷ ts) (leaf (λ at. tree.name at x) t ts)
    call : (ts : List Token) (p : Part Expr) → Call ts p → Primary ts p
    new : (ts : List Token) (p : Part Expr) → New ts p → Primary ts p
    enclosed : (opening closing : Token) (ts us : List Token) (p : Part Expr) → opening.kind ≡ kind.Mark (codes "(") → Line expr_line ts p
        → Next (kind.Mark (codes ")")) p.rest closing us → Primary (opening ∷ ts) (in_parentheses opening p closing us)

  -- NAME "(" args ")"
  pub data Call : List Token → Part Expr → Type 0 where
    call_of : (t opening closing : Token) (f : List ℕ) (ts us vs : List Token) (args : Row Exprs) → t.kind ≡ kind.Name f
        → Next (kind.Mark (codes "(")) ts opening us → Args us args → Next (kind.Mark (codes ")")) args.rest closing vs
        → Call (t ∷ ts) (called t f args closing vs)

  pub data New : List Token → Part Expr → Type 0 where
    plain : (ts : List Token) (a : Part Request) → Allocation ts a → New ts (allocated None a.at a)
    cast : (opening closing : Token) (ts us vs : List Token) (b : Piece Measured) (star : Span) (k : TypeName) (a : Part Request)
        → opening.kind ≡ kind.Mark (codes "(") → IsBase ts b → IsStar b.rest star us → type_of b.tree true ≡ Some k
        → Next (kind.Mark (codes ")")) us closing vs → Allocation vs a
        → New (opening ∷ ts) (allocated (Some k) (join opening.at a.at) a)

  -- the call of malloc or calloc, as deep as its parentheses
  pub data Allocation : List Token → Part Request → Type 0 where
    malloc : (t opening closing : Token) (ts us vs : List Token) (size : Row Request) → t.kind ≡ kind.Word (codes "malloc")
        → Next (kind.Mark (codes "(")) ts opening us → Size us size → Next (kind.Mark (codes ")")) size.rest closing vs
        → Allocation (t ∷ ts) (record { tree = size.tree; at = join t.at closing.at; depth = suc size.depth; rest = vs })
    calloc : (t opening comma closing : Token) (ts us vs ws : List Token) (count : Part Expr) (unit : Row Measured)
        → t.kind ≡ kind.Word (codes "calloc") → Next (kind.Mark (codes "(")) ts opening us → Line expr_line us count
        → Next (kind.Mark (codes ",")) count.rest comma vs → IsUnit vs unit → Next (kind.Mark (codes ")")) unit.rest closing ws
        → Allocation (t ∷ ts) (record {
          tree = request true (Some unit.tree) (Some count.tree);
          at = join t.at closing.at;
          depth = suc (max count.depth unit.depth);
          rest = ws;
        })
    calloc_bytes : (t opening comma one closing : Token) (ts us vs ws xs : List Token) (count : Part Expr)
        → t.kind ≡ kind.Word (codes "calloc") → Next (kind.Mark (codes "(")) ts opening us → Line expr_line us count
        → Next (kind.Mark (codes ",")) count.rest comma vs → Next (kind.Num (pos 1)) vs one ws → Next (kind.Mark (codes ")")) ws closing xs
        → Allocation (t ∷ ts) (record {
          tree = request true None (Some count.tree);
          at = join t.at closing.at;
          depth = suc count.depth;
          rest = xs;
        })

  -- the `*` before or after a unit is no node
  pub data Size : List Token → Row Request → Type 0 where
    unit : (ts : List Token) (u : Row Measured) → IsUnit ts u
        → Size ts (record { tree = request false (Some u.tree) None; depth = u.depth; rest = u.rest })
    count_unit : (ts us : List Token) (times : Token) (p : Part Expr) (u : Row Measured) → Line product_line ts p
        → Next (kind.Mark (codes "*")) p.rest times us → IsUnit us u
        → Size ts (record { tree = request false (Some u.tree) (Some p.tree); depth = max p.depth u.depth; rest = u.rest })
    unit_count : (ts us : List Token) (times : Token) (u : Row Measured) (p : Part Expr) → IsUnit ts u
        → Next (kind.Mark (codes "*")) u.rest times us → Line product_line us p
        → Size ts (record { tree = request false (Some u.tree) (Some p.tree); depth = max u.depth p.depth; rest = p.rest })
    bytes : (ts : List Token) (p : Part Expr) → Line expr_line ts p
        → Size ts (record { tree = request false None (Some p.tree); depth = p.depth; rest = p.rest })
