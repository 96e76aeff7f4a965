-- What a parser reads of an expression, by recursion on the depth that is left to it.
use Rattle.std.specs.Prelude.{ℕ, ℤ, zero, suc, max, Bool, true, false, ◌==◌, if◌then◌else◌, nat_le, pos, List, [], ◌∷◌, length, Option, Some, None, option_and_then, codes}
use Rattle.c_tree.specs.declared.position.Span.{Span}
use Rattle.c_tree.specs.declared.tree.BinaryOp.{BinaryOp}
use Rattle.c_tree.specs.declared.tree.TypeName.{TypeName}
use Rattle.c_tree.specs.declared.tree.Unit.{Unit as Measured}
use Rattle.c_tree.specs.declared.tree.Unit.TheVariants as measured
use Rattle.c_tree.specs.Plain.{Expr, Exprs, no_exprs}
use Rattle.c_tree.specs.Plain as tree
use Rattle.c_token.specs.declared.token.Token.{Token}
use Rattle.c_token.specs.declared.token.TokenKind.{TokenKind}
use Rattle.c_token.specs.declared.token.TokenKind.TheVariants as kind
use Rattle.c_grammar.specs.Parts.{Part, Row, Piece, join}
use Rattle.c_grammar.specs.Types.{type_of}
use Rattle.c_grammar.specs.Exprs.{product_line, expr_line, Operator, operator, leaf, operation, negation, arrowed, indexed, in_parentheses, called, Request, request, allocated}
use Rattle.c_grammar.specs.Reading.{is_mark, is_word, Front, Named, after_mark, after_word, after_name, Stretch, read_base, read_star}

abbrev pub Reader : Type 0
Reader = List Token → Option (Part Expr)

-- a form, the token that closes it, and the tokens after that
pub record Group (X : Type 0) : Type 0 where
  pub row : Row X
  pub closing : Token
  pub rest : List Token

abbrev pub group : {X : Type 0} → Row X → Front → Option (Group X)
group r q = Some (record { row = r; closing = q.token; rest = q.rest })

-- what the depth that is left is there for
pub record Stage : Type 0 where
  pub line : ℕ → Reader
  -- "(" args ")"
  pub args : List Token → Option (Group Exprs)
  pub size : List Token → Option (Row Request)
  -- the call of malloc or calloc
  pub allocation : List Token → Option (Part Request)

-- unit: whether parentheses may still be there
abbrev pub unit_behind : Bool → Named → Option (Row Measured)
unit_behind true n = option_and_then (λ q. Some (record { tree = measured.Behind n.name; depth = 1; rest = q.rest })) (after_mark (codes ")") n.rest)
unit_behind false n = Some (record { tree = measured.Behind n.name; depth = 0; rest = n.rest })

abbrev pub unit_type : Piece Measured → Option (Row Measured)
unit_type b = option_and_then (λ q. Some (record { tree = b.tree; depth = 1; rest = q.rest })) (after_mark (codes ")") b.rest)

abbrev pub unit_in : List Token → Option Front → Option (Row Measured)
unit_in ts None = option_and_then unit_type (read_base ts)
unit_in ts (Some q) = option_and_then (unit_behind true) (after_name q.rest)

abbrev pub unit_enclosed : ℕ → List Token → Option (Row Measured)
unit_enclosed zero ts = None
unit_enclosed (suc d) ts = unit_in ts (after_mark (codes "*") ts)

abbrev pub unit_after : ℕ → List Token → Option Front → Option (Row Measured)
unit_after limit ts (Some q) = unit_enclosed limit q.rest
unit_after limit ts None = option_and_then (λ q. option_and_then (unit_behind false) (after_name q.rest)) (after_mark (codes "*") ts)

abbrev pub read_unit : ℕ → List Token → Option (Row Measured)
read_unit limit ts = option_and_then (λ q. unit_after limit q.rest (after_mark (codes "(") q.rest)) (after_word (codes "sizeof") ts)

-- args
abbrev pub last_arg : Part Expr → Row Exprs
last_arg p = record { tree = tree.expr p.tree no_exprs; depth = p.depth; rest = p.rest }

abbrev pub more_args : Part Expr → Row Exprs → Option (Row Exprs)
more_args p a = Some (record { tree = tree.expr p.tree a.tree; depth = max p.depth a.depth; rest = a.rest })

abbrev pub args_after : (List Token → Option (Row Exprs)) → Part Expr → Option Front → Option (Row Exprs)
args_after next p None = Some (last_arg p)
args_after next p (Some q) = option_and_then (more_args p) (next q.rest)

-- at most so many
abbrev pub some_args : ℕ → Reader → List Token → Option (Row Exprs)
some_args zero read ts = None
some_args (suc k) read ts = option_and_then (λ p. args_after (some_args k read) p (after_mark (codes ",") p.rest)) (read ts)

abbrev pub args_closed : Row Exprs → Option (Group Exprs)
args_closed a = option_and_then (group a) (after_mark (codes ")") a.rest)

abbrev pub args_in : ℕ → Reader → List Token → Option Front → Option (Group Exprs)
args_in fuel read ts None = option_and_then args_closed (some_args fuel read ts)
args_in fuel read ts (Some q) = group (record { tree = no_exprs; depth = 0; rest = ts }) q

abbrev pub read_args : Reader → List Token → Option (Group Exprs)
read_args read ts = option_and_then (λ q. args_in (length q.rest) read q.rest (after_mark (codes ")") q.rest)) (after_mark (codes "(") ts)

-- operators between operands
pub record Found : Type 0 where
  pub op : BinaryOp
  pub rest : List Token

abbrev pub found_at : ℕ → Option Operator → List Token → Option Found
found_at k None ts = None
found_at k (Some o) ts = if o.line == k then Some (record { op = o.op; rest = ts }) else None

abbrev pub find : ℕ → List Token → Option Found
find k [] = None
find k (t ∷ ts) = found_at k (operator t.kind) ts

abbrev pub begins_sizeof : List Token → Bool
begins_sizeof [] = false
begins_sizeof (t ∷ ts) = is_word (codes "sizeof") t.kind

abbrev pub before_unit : Option Found → Option Found
before_unit None = None
before_unit (Some f) = if begins_sizeof f.rest then None else Some f

-- an operator of a product, but for one before `sizeof`
abbrev pub find_counted : List Token → Option Found
find_counted ts = before_unit (find product_line ts)

abbrev pub Finder : Type 0
Finder = List Token → Option Found

-- one more operand, one level down on its right
abbrev pub operand_after : Reader → ℕ → Part Expr → Found → Option (Part Expr)
operand_after read d l f = if nat_le l.depth d then option_and_then (λ r. Some (operation f.op l r)) (read f.rest) else None

abbrev pub operations_at : (Part Expr → Option (Part Expr)) → Reader → ℕ → Part Expr → Option Found → Option (Part Expr)
operations_at next read d l None = Some l
operations_at next read d l (Some f) = option_and_then next (operand_after read d l f)

-- the operands that follow, at most so many
abbrev pub operations : ℕ → Finder → Reader → ℕ → Part Expr → Option (Part Expr)
operations zero found read d l = operations_at (λ p. None) read d l (found l.rest)
operations (suc n) found read d l = operations_at (operations n found read d) read d l (found l.rest)

-- the steps of a postfix
abbrev pub step_arrow : Part Expr → Front → Option (Part Expr)
step_arrow p q = option_and_then (λ n. Some (arrowed p n.token n.name n.rest)) (after_name q.rest)

abbrev pub step_closed : Part Expr → Part Expr → Option (Part Expr)
step_closed p i = option_and_then (λ q. Some (indexed p i q.token q.rest)) (after_mark (codes "]") i.rest)

abbrev pub step_index : Reader → Part Expr → Front → Option (Part Expr)
step_index read p q = option_and_then (step_closed p) (read q.rest)

pub data Way : Type 0 where
  by_arrow : Front → Way
  by_index : Front → Way
  no_way : Way

abbrev pub way_index : Option Front → Way
way_index None = no_way
way_index (Some q) = by_index q

abbrev pub way_arrow : List Token → Option Front → Way
way_arrow ts None = way_index (after_mark (codes "[") ts)
way_arrow ts (Some q) = by_arrow q

abbrev pub way : List Token → Way
way ts = way_arrow ts (after_mark (codes "->") ts)

abbrev pub step_by : Reader → ℕ → Part Expr → Way → Option (Part Expr)
step_by read d p no_way = None
step_by read d p (by_arrow q) = if nat_le p.depth d then step_arrow p q else None
step_by read d p (by_index q) = if nat_le p.depth d then step_index read p q else None

abbrev pub steps_at : (Part Expr → Option (Part Expr)) → Reader → ℕ → Part Expr → Way → Option (Part Expr)
steps_at next read d p no_way = Some p
steps_at next read d p w = option_and_then next (step_by read d p w)

abbrev pub steps : ℕ → Reader → ℕ → Part Expr → Option (Part Expr)
steps zero read d p = steps_at (λ q. None) read d p (way p.rest)
steps (suc n) read d p = steps_at (steps n read d) read d p (way p.rest)

-- primary
abbrev pub call_closed : Token → List ℕ → Group Exprs → Option (Part Expr)
call_closed t f g = Some (called t f g.row g.closing g.rest)

abbrev pub name_at : Stage → Token → List ℕ → List Token → Option Front → Option (Part Expr)
name_at s t x ts None = Some (leaf (λ at. tree.name at x) t ts)
name_at s t x ts (Some q) = option_and_then (call_closed t x) (s.args ts)

abbrev pub cast_made : Token → TypeName → List Token → Stage → Option (Part Expr)
cast_made t k ts s = option_and_then (λ a. Some (allocated (Some k) (join t.at a.at) a)) (s.allocation ts)

abbrev pub cast_closed : Stage → Token → TypeName → Stretch → Option (Part Expr)
cast_closed s t k r = option_and_then (λ q. cast_made t k q.rest s) (after_mark (codes ")") r.rest)

abbrev pub cast_typed : Stage → Token → Stretch → Option TypeName → Option (Part Expr)
cast_typed s t r o = option_and_then (λ k. cast_closed s t k r) o

abbrev pub cast_base : Stage → Token → Piece Measured → Option (Part Expr)
cast_base s t b = option_and_then (λ r. cast_typed s t r (type_of b.tree true)) (read_star b.rest)

abbrev pub paren_closed : Token → Part Expr → Option (Part Expr)
paren_closed t p = option_and_then (λ q. Some (in_parentheses t p q.token q.rest)) (after_mark (codes ")") p.rest)

abbrev pub is_base_kind : TokenKind → Bool
is_base_kind (kind.Word w) = if is_word (codes "const") (kind.Word w) then true else (if is_word (codes "int") (kind.Word w) then true
    else (if is_word (codes "char") (kind.Word w) then true else is_word (codes "struct") (kind.Word w)))
is_base_kind _ = false

abbrev pub begins_base : List Token → Bool
begins_base [] = false
begins_base (t ∷ ts) = is_base_kind t.kind

abbrev pub paren_at : Stage → Token → List Token → Option (Part Expr)
paren_at s t ts = if begins_base ts then option_and_then (cast_base s t) (read_base ts) else option_and_then (paren_closed t) (s.line expr_line ts)

abbrev pub plain_new : Part Request → Option (Part Expr)
plain_new a = Some (allocated None a.at a)

abbrev pub primary_at : Stage → TokenKind → Token → List Token → Option (Part Expr)
primary_at s (kind.Num z) t ts = Some (leaf (λ at. tree.num at z) t ts)
primary_at s (kind.Char z) t ts = Some (leaf (λ at. tree.num at z) t ts)
primary_at s (kind.Text units) t ts = Some (leaf (λ at. tree.text at units) t ts)
primary_at s (kind.Name x) t ts = name_at s t x ts (after_mark (codes "(") ts)
primary_at s (kind.Word w) t ts = if is_word (codes "NULL") (kind.Word w) then Some (leaf tree.null t ts)
    else option_and_then plain_new (s.allocation (t ∷ ts))
primary_at s (kind.Mark m) t ts = if is_mark (codes "(") (kind.Mark m) then paren_at s t ts else None

abbrev pub read_primary : Stage → Reader
read_primary s [] = None
read_primary s (t ∷ ts) = primary_at s t.kind t ts

abbrev pub read_postfix : Stage → ℕ → Reader
read_postfix s d ts = option_and_then (steps (suc d) (s.line expr_line) d) (read_primary s ts)

abbrev pub negated : (Span → Expr → Expr) → Token → Part Expr → Option (Part Expr)
negated node t p = Some (negation node t p)

abbrev pub unary_at : Stage → ℕ → TokenKind → Token → List Token → Option (Part Expr)
unary_at s d k t ts = if is_mark (codes "!") k then option_and_then (negated tree.not_of t) (s.line 0 ts)
    else (if is_mark (codes "-") k then option_and_then (negated tree.neg t) (s.line 0 ts)
    else read_postfix s d (t ∷ ts))

abbrev pub read_unary : Stage → ℕ → Reader
read_unary s d [] = None
read_unary s d (t ∷ ts) = unary_at s d t.kind t ts

abbrev pub read_line : Stage → ℕ → ℕ → Reader
read_line s d zero ts = read_unary s d ts
read_line s d (suc k) ts = option_and_then (operations (suc d) (find (suc k)) (s.line k) d) (read_line s d k ts)

-- the operands after a product, of this many lines above it
abbrev pub rise : Stage → ℕ → ℕ → Part Expr → Option (Part Expr)
rise s d zero p = Some p
rise s d (suc j) p = option_and_then (operations (suc d) (find (suc (suc j))) (s.line (suc j)) d) (rise s d j p)

-- size
abbrev pub size_bytes : Part Expr → Option (Row Request)
size_bytes p = Some (record { tree = request false None (Some p.tree); depth = p.depth; rest = p.rest })

abbrev pub size_counted : Part Expr → Row Measured → Option (Row Request)
size_counted p u = Some (record { tree = request false (Some u.tree) (Some p.tree); depth = max p.depth u.depth; rest = u.rest })

abbrev pub size_times : Row Measured → Part Expr → Option (Row Request)
size_times u p = Some (record { tree = request false (Some u.tree) (Some p.tree); depth = max u.depth p.depth; rest = p.rest })

abbrev pub size_unit : Reader → Row Measured → Option Front → Option (Row Request)
size_unit product u None = Some (record { tree = request false (Some u.tree) None; depth = u.depth; rest = u.rest })
size_unit product u (Some q) = option_and_then (size_times u) (product q.rest)

abbrev pub size_product : (Part Expr → Option (Part Expr)) → ℕ → Part Expr → Option Front → Option (Row Request)
size_product rise limit p None = option_and_then size_bytes (rise p)
size_product rise limit p (Some q) = option_and_then (size_counted p) (read_unit limit q.rest)

abbrev pub size_by : Reader → Reader → (Part Expr → Option (Part Expr)) → ℕ → List Token → Option (Row Request)
size_by product counted rise limit ts = if begins_sizeof ts
    then option_and_then (λ u. size_unit product u (after_mark (codes "*") u.rest)) (read_unit limit ts)
    else option_and_then (λ p. size_product rise limit p (after_mark (codes "*") p.rest)) (counted ts)

abbrev pub read_counted : Stage → ℕ → Reader
read_counted s d ts = option_and_then (operations (suc d) find_counted (s.line 0) d) (read_unary s d ts)

-- the call of malloc or calloc
abbrev pub malloc_closed : Token → Row Request → Option (Part Request)
malloc_closed t r = option_and_then (λ q. Some (record { tree = r.tree; at = join t.at q.token.at; depth = suc r.depth; rest = q.rest })) (after_mark (codes ")") r.rest)

abbrev pub calloc_closed : Token → Part Expr → Row Measured → Option (Part Request)
calloc_closed t p u = option_and_then (λ q. Some (record {
  tree = request true (Some u.tree) (Some p.tree);
  at = join t.at q.token.at;
  depth = suc (max p.depth u.depth);
  rest = q.rest;
})) (after_mark (codes ")") u.rest)

abbrev pub bytes_closed : Token → Part Expr → Front → Option (Part Request)
bytes_closed t p one = option_and_then (λ q. Some (record {
  tree = request true None (Some p.tree);
  at = join t.at q.token.at;
  depth = suc p.depth;
  rest = q.rest;
})) (after_mark (codes ")") one.rest)

abbrev pub is_one_int : ℤ → Bool
is_one_int (pos n) = n == 1
is_one_int _ = false

abbrev pub is_one : TokenKind → Bool
is_one (kind.Num z) = is_one_int z
is_one _ = false

abbrev pub after_one : List Token → Option Front
after_one [] = None
after_one (t ∷ ts) = if is_one t.kind then Some (record { token = t; rest = ts }) else None

abbrev pub calloc_unit : ℕ → Token → Part Expr → List Token → Option Front → Option (Part Request)
calloc_unit limit t p ts (Some one) = bytes_closed t p one
calloc_unit limit t p ts None = option_and_then (calloc_closed t p) (read_unit limit ts)

abbrev pub calloc_comma : ℕ → Token → Part Expr → Option (Part Request)
calloc_comma limit t p = option_and_then (λ q. calloc_unit limit t p q.rest (after_one q.rest)) (after_mark (codes ",") p.rest)

-- the parentheses hold what is one less deep
abbrev pub allocation_at : Stage → ℕ → Token → List Token → Option (Part Request)
allocation_at s d t ts =
    if is_word (codes "malloc") t.kind then option_and_then (λ q. option_and_then (malloc_closed t) (s.size q.rest)) (after_mark (codes "(") ts)
    else (if is_word (codes "calloc") t.kind then option_and_then (λ q. option_and_then (calloc_comma d t) (s.line expr_line q.rest)) (after_mark (codes "(") ts)
    else None)

abbrev pub read_allocation : Stage → ℕ → List Token → Option (Part Request)
read_allocation s d [] = None
read_allocation s d (t ∷ ts) = allocation_at s d t ts

abbrev pub no_part : Reader
no_part ts = None

abbrev pub first : Stage
first = record {
  line = λ k ts. None;
  args = λ ts. None;
  size = size_by no_part no_part (λ p. None) 0;
  allocation = λ ts. None;
}

-- with one more level left than in s, of which d are left
abbrev pub next : ℕ → Stage → Stage
next d s = record {
  line = read_line s d;
  args = read_args (s.line expr_line);
  size = size_by (read_line s d product_line) (read_counted s d) (rise s d 5) (suc d);
  allocation = read_allocation s d;
}

unfoldable pub stage : ℕ → Stage
stage zero = first
stage (suc d) = next d (stage d)
