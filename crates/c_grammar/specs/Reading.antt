-- What a parser looks up at the front of the tokens.
use Rattle.std.specs.Prelude.{ℕ, Bool, false, if◌then◌else◌, List, [], ◌∷◌, Option, Some, None, option_and_then, bytes_eq, codes}
use Rattle.c_tree.specs.declared.position.Span.{Span}
use Rattle.c_tree.specs.declared.tree.Unit.{Unit as Base}
use Rattle.c_tree.specs.declared.tree.Unit.TheVariants as base
use Rattle.c_token.specs.declared.token.Token.{Token}
use Rattle.c_token.specs.declared.token.TokenKind.{TokenKind}
use Rattle.c_token.specs.declared.token.TokenKind.TheVariants as kind
use Rattle.c_grammar.specs.Parts.{Piece, join}

abbrev pub is_mark : List ℕ → TokenKind → Bool
is_mark m (kind.Mark w) = bytes_eq w m
is_mark m _ = false

abbrev pub is_word : List ℕ → TokenKind → Bool
is_word m (kind.Word w) = bytes_eq w m
is_word m _ = false

abbrev pub name_of : TokenKind → Option (List ℕ)
name_of (kind.Name x) = Some x
name_of _ = None

-- the token at the front, and those after it
pub record Front : Type 0 where
  pub token : Token
  pub rest : List Token

pub record Named : Type 0 where
  pub name : List ℕ
  pub token : Token
  pub rest : List Token

abbrev pub front_if : Bool → Token → List Token → Option Front
front_if b t ts = if b then Some (record { token = t; rest = ts }) else None

abbrev pub after_mark : List ℕ → List Token → Option Front
after_mark m [] = None
after_mark m (t ∷ ts) = front_if (is_mark m t.kind) t ts

abbrev pub after_word : List ℕ → List Token → Option Front
after_word w [] = None
after_word w (t ∷ ts) = front_if (is_word w t.kind) t ts

abbrev named : Option (List ℕ) → Token → List Token → Option Named
named None t ts = None
named (Some x) t ts = Some (record { name = x; token = t; rest = ts })

abbrev pub after_name : List Token → Option Named
after_name [] = None
after_name (t ∷ ts) = named (name_of t.kind) t ts

-- how far a span reaches, and what is left
pub record Stretch : Type 0 where
  pub at : Span
  pub rest : List Token

abbrev pub consts : Span → List Token → Stretch
consts at [] = record { at = at; rest = [] }
consts at (t ∷ ts) = if is_word (codes "const") t.kind then consts (join at t.at) ts else record { at = at; rest = t ∷ ts }

abbrev pub based : Base → Stretch → Piece Base
based b s = record { tree = b; at = s.at; rest = s.rest }

abbrev pub base_struct : Token → Named → Option (Piece Base)
base_struct t n = Some (based (base.Struct n.name) (consts (join t.at n.token.at) n.rest))

abbrev pub base_at : Token → List Token → Option (Piece Base)
base_at t ts =
    if is_word (codes "int") t.kind then Some (based base.Int (consts t.at ts))
    else (if is_word (codes "char") t.kind then Some (based base.Char (consts t.at ts))
    else (if is_word (codes "struct") t.kind then option_and_then (base_struct t) (after_name ts) else None))

abbrev pub after_const : Token → Piece Base → Option (Piece Base)
after_const t p = Some (record { tree = p.tree; at = join t.at p.at; rest = p.rest })

abbrev pub read_base : List Token → Option (Piece Base)
read_base [] = None
read_base (t ∷ ts) = if is_word (codes "const") t.kind then option_and_then (after_const t) (read_base ts) else base_at t ts

abbrev pub star_at : Front → Stretch
star_at q = consts q.token.at q.rest

abbrev pub read_star : List Token → Option Stretch
read_star ts = option_and_then (λ q. Some (star_at q)) (after_mark (codes "*") ts)
