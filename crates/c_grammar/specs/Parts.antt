-- What the relations of the grammar say of a form: it stands at the front of some tokens, and others come after it.
use Rattle.std.specs.Prelude.{◌≡◌, ℕ, List, ◌∷◌}
use Rattle.c_tree.specs.declared.position.Span.{Span}
use Rattle.c_token.specs.declared.token.Token.{Token}
use Rattle.c_token.specs.declared.token.TokenKind.{TokenKind}

-- a form with a span and a depth: the tree that it spells, the span from its first to its last token with the
-- parentheses around it, the depth of the spelling, and the tokens after it
pub record Part (X : Type 0) : Type 0 where
  pub tree : X
  pub at : Span
  pub depth : ℕ
  pub rest : List Token

-- a form without a span of its own
pub record Row (X : Type 0) : Type 0 where
  pub tree : X
  pub depth : ℕ
  pub rest : List Token

-- a form that holds no expression
pub record Piece (X : Type 0) : Type 0 where
  pub tree : X
  pub at : Span
  pub rest : List Token

-- the span from the first token of one to the last of the other
abbrev pub join : Span → Span → Span
join a b = record { start = a.start; end = b.end; line = a.line; col = a.col }

-- these tokens begin with token t, which is of this kind, and then come the tokens us
abbrev pub Next : TokenKind → List Token → Token → List Token → Type 0
Next kind ts t us = (ts ≡ t ∷ us) × (t.kind ≡ kind)
