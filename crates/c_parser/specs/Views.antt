-- What a clause sees of what the parts of the parser return.
use Rattle.std.specs.Prelude.{◌≡◌, ℕ, Bool, true, false, List, [], ◌∷◌, Option, None, Some, Ok, Err, option_map, option_and_then, if◌then◌else◌, bytes_eq, codes}
use Rattle.std.specs.Borrow.{Bor}
use Rattle.std.specs.declared.result.Result.{Result}
use Rattle.c_tree.specs.declared.tree.Unit.{Unit as Base}
use Rattle.c_tree.specs.declared.tree.TypeName.{TypeName}
use Rattle.c_tree.specs.Plain.{Expr, Exprs}
use Rattle.c_tree.specs.Plain as tree
use Rattle.c_tree.specs.View.{expr_view, exprs_view}
use Rattle.c_token.specs.declared.token.Token.{Token}
use Rattle.c_token.specs.declared.token.TokenKind.{TokenKind}
use Rattle.c_token.specs.declared.token.TokenKind.TheVariants as kind
use Rattle.c_grammar.specs.Parts.{Part, Row, Piece}
use Rattle.c_grammar.specs.Exprs.{leaf, Operator, Request, request}
use Rattle.c_grammar.specs.Types.{type_of}
use Rattle.c_grammar.specs.Reading.{is_word, after_mark, Front, Named, Stretch, base_at, read_base, read_star}
use Rattle.c_grammar.specs.ReadExprs.{Found, Finder, find, before_unit}
use Rattle.c_parser.specs.declared.error.ParseError.{ParseError}
use Rattle.c_parser.specs.declared.error.ParseError.TheVariants as error
use Rattle.c_parser.specs.declared.tokens.Front as code_front
use Rattle.c_parser.specs.declared.tokens.Named as code_named
use Rattle.c_parser.specs.declared.types.Stretch as code_stretch
use Rattle.c_parser.specs.declared.types.BasePiece as code_base
use Rattle.c_parser.specs.declared.operators.Operator as code_operator
use Rattle.c_parser.specs.declared.operators.Found as code_found
use Rattle.c_parser.specs.declared.parts.ExprPart as code_expr
use Rattle.c_parser.specs.declared.parts.ArgsRow as code_args
use Rattle.c_parser.specs.declared.parts.UnitRow as code_unit
use Rattle.c_parser.specs.declared.parts.SizeRow as code_size
use Rattle.c_parser.specs.declared.parts.Allocation as code_allocation
use Rattle.c_parser.specs.declared.units.Cast as code_cast

-- where the first token begins, or this place where there is none
abbrev pub first_place : ℕ → List Token → ℕ
first_place end [] = end
first_place end (t ∷ ts) = t.at.start

abbrev pub front_of : code_front.Front → Front
front_of q = record { token = q.token.now; rest = q.rest.now }

abbrev pub named_of : code_named.Named → Named
named_of n = record { name = n.name.now; token = n.token.now; rest = n.rest.now }

abbrev pub stretch_of : code_stretch.Stretch → Stretch
stretch_of s = record { at = s.at; rest = s.rest.now }

abbrev pub base_of : code_base.BasePiece → Piece Base
base_of b = record { tree = b.tree; at = b.at; rest = b.rest.now }

abbrev pub plain_base : List Token → Option (Piece Base)
plain_base [] = None
plain_base (t ∷ ts) = base_at t ts

abbrev pub operator_view : code_operator.Operator → Operator
operator_view o = record { line = o.line; op = o.op }

-- a row of a table of operators
abbrev pub row_view : Bor (List ℕ) × code_operator.Operator → List ℕ × Operator
row_view r = (r.0.now, operator_view r.1)

-- the operator of the first row with this mark
abbrev pub listed : List ℕ → List (List ℕ × Operator) → Option Operator
listed m [] = None
listed m (r ∷ rs) = if bytes_eq m r.0 then Some r.1 else listed m rs

abbrev pub found_of : code_found.Found → Found
found_of f = record { op = f.op; rest = f.rest.now }

-- the operators of a line, but for those before `sizeof` where a unit may follow
abbrev pub finder : Bool → ℕ → Finder
finder false k ts = find k ts
finder true k ts = before_unit (find k ts)

abbrev pub expr_part : code_expr.ExprPart → Part Expr
expr_part p = record { tree = expr_view p.tree; at = p.at; depth = p.depth; rest = p.rest.now }

abbrev pub args_row : code_args.ArgsRow → Row Exprs
args_row a = record { tree = exprs_view a.items; depth = a.depth; rest = a.rest.now }

abbrev pub unit_row : code_unit.UnitRow → Row Base
unit_row u = record { tree = u.tree; depth = u.depth; rest = u.rest.now }

abbrev pub size_row : code_size.SizeRow → Row Request
size_row s = record { tree = request false s.unit (option_map expr_view s.count); depth = s.depth; rest = s.rest.now }

abbrev pub allocation_part : code_allocation.Allocation → Part Request
allocation_part a = record { tree = request a.zeroed a.unit (option_map expr_view a.count); at = a.at; depth = a.depth; rest = a.rest.now }

-- a constant where one stands here
abbrev pub literal_at : TokenKind → Token → List Token → Option (Part Expr)
literal_at (kind.Num z) t ts = Some (leaf (λ at. tree.num at z) t ts)
literal_at (kind.Char z) t ts = Some (leaf (λ at. tree.num at z) t ts)
literal_at (kind.Text units) t ts = Some (leaf (λ at. tree.text at units) t ts)
literal_at (kind.Word w) t ts = if is_word (codes "NULL") (kind.Word w) then Some (leaf tree.null t ts) else None
literal_at _ t ts = None

abbrev pub literal : Token → List Token → Option (Part Expr)
literal t ts = literal_at t.kind t ts

-- the type of a cast, and the tokens after it
pub record Cast : Type 0 where
  pub kind : TypeName
  pub rest : List Token

abbrev pub cast_of : code_cast.Cast → Cast
cast_of c = record { kind = c.kind; rest = c.rest.now }

abbrev pub cast_closed : List Token → TypeName → Option Cast
cast_closed ts k = option_and_then (λ q. Some (record { kind = k; rest = q.rest })) (after_mark (codes ")") ts)

abbrev pub cast_starred : Piece Base → Stretch → Option Cast
cast_starred b s = option_and_then (cast_closed s.rest) (type_of b.tree true)

abbrev pub cast_base : Piece Base → Option Cast
cast_base b = option_and_then (cast_starred b) (read_star b.rest)

abbrev pub read_cast : List Token → Option Cast
read_cast ts = option_and_then cast_base (read_base ts)

-- What a function returned is what reading gives: a refusal comes where reading gives nothing, unless memory ran out.
abbrev pub Refuses : {X : Type 0} → ParseError → Option X → Type 0
Refuses error.Memory read = Unit {0}
Refuses (error.Parse k) read = read ≡ None

abbrev pub Gives : {C X : Type 0} → (C → X) → Result C ParseError → Option X → Type 0
Gives view (Ok c) read = read ≡ Some (view c)
Gives view (Err e) read = Refuses e read
