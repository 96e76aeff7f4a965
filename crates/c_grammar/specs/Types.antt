-- The grammar of types and declarators:
--   base = {"const"} ("int" | "char" | "struct" NAME) {"const"}
--   star = "*" {"const"}
use Rattle.std.specs.Prelude.{◌≡◌, ℕ, Bool, true, false, List, ◌∷◌, Option, Some, None, codes}
use Rattle.c_tree.specs.declared.position.Span.{Span}
use Rattle.c_tree.specs.declared.tree.TypeName.{TypeName}
use Rattle.c_tree.specs.declared.tree.Unit.{Unit as Base}
use Rattle.c_tree.specs.declared.tree.Unit.TheVariants as base
use Rattle.c_tree.specs.declared.tree.Member.{Member}
use Rattle.c_token.specs.declared.token.Token.{Token}
use Rattle.c_token.specs.declared.token.TokenKind.TheVariants as kind
use Rattle.c_grammar.specs.Parts.{Piece, join, Next}

-- {"const"}: the span so far, and the span with them
pub data Consts : Span → List Token → Span → List Token → Type 0 where
  none : (at : Span) (ts : List Token) → Consts at ts at ts
  const : (at to : Span) (t : Token) (ts us : List Token) → t.kind ≡ kind.Word (codes "const")
      → Consts (join at t.at) ts to us → Consts at (t ∷ ts) to us

pub data IsBase : List Token → Piece Base → Type 0 where
  const : (t : Token) (ts : List Token) (p : Piece Base) → t.kind ≡ kind.Word (codes "const") → IsBase ts p
      → IsBase (t ∷ ts) (record { tree = p.tree; at = join t.at p.at; rest = p.rest })
  int : (t : Token) (ts us : List Token) (at : Span) → t.kind ≡ kind.Word (codes "int") → Consts t.at ts at us
      → IsBase (t ∷ ts) (record { tree = base.Int; at = at; rest = us })
  char : (t : Token) (ts us : List Token) (at : Span) → t.kind ≡ kind.Word (codes "char") → Consts t.at ts at us
      → IsBase (t ∷ ts) (record { tree = base.Char; at = at; rest = us })
  struct : (t n : Token) (s : List ℕ) (ts us vs : List Token) (at : Span) → t.kind ≡ kind.Word (codes "struct")
      → Next (kind.Name s) ts n us → Consts (join t.at n.at) us at vs
      → IsBase (t ∷ ts) (record { tree = base.Struct s; at = at; rest = vs })

pub data IsStar : List Token → Span → List Token → Type 0 where
  star : (t : Token) (ts us : List Token) (at : Span) → t.kind ≡ kind.Mark (codes "*") → Consts t.at ts at us
      → IsStar (t ∷ ts) at us

-- the type that a base has with a star, or without one: what is declared as a struct has a star
abbrev pub type_of : Base → Bool → Option TypeName
type_of base.Int false = Some TypeName.Int
type_of base.Int true = Some TypeName.IntPtr
type_of base.Char false = Some TypeName.Char
type_of base.Char true = Some TypeName.CharPtr
type_of (base.Struct s) false = None
type_of (base.Struct s) true = Some (TypeName.StructPtr s)
type_of (base.Behind x) starred = None

-- base [star]
pub data IsType : List Token → Piece TypeName → Type 0 where
  plain : (ts : List Token) (b : Piece Base) (k : TypeName) → IsBase ts b → type_of b.tree false ≡ Some k
      → IsType ts (record { tree = k; at = b.at; rest = b.rest })
  starred : (ts us : List Token) (b : Piece Base) (at : Span) (k : TypeName) → IsBase ts b → IsStar b.rest at us
      → type_of b.tree true ≡ Some k → IsType ts (record { tree = k; at = join b.at at; rest = us })

-- [star] NAME, after this base: the span runs from the star to the name
pub data IsDeclarator (b : Base) : List Token → Member → List Token → Type 0 where
  plain : (n : Token) (us : List Token) (x : List ℕ) (k : TypeName) → n.kind ≡ kind.Name x → type_of b false ≡ Some k
      → IsDeclarator b (n ∷ us) (record { name = x; kind = k; at = n.at }) us
  starred : (ts us vs : List Token) (n : Token) (x : List ℕ) (k : TypeName) (at : Span) → IsStar ts at us
      → Next (kind.Name x) us n vs → type_of b true ≡ Some k
      → IsDeclarator b ts (record { name = x; kind = k; at = join at n.at }) vs
