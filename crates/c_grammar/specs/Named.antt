-- What is asked of the tokens: each name token holds a name.
use Rattle.std.specs.Prelude.{List, [], ◌∷◌, ⊤}
use Rattle.c_tree.specs.Names.{IsName}
use Rattle.c_token.specs.declared.token.Token.{Token}
use Rattle.c_token.specs.declared.token.TokenKind.{TokenKind}
use Rattle.c_token.specs.declared.token.TokenKind.TheVariants as kind

abbrev pub HoldsName : TokenKind → Type 0
HoldsName (kind.Name w) = IsName w
HoldsName _ = ⊤

abbrev pub HoldNames : List Token → Type 0
HoldNames [] = ⊤
HoldNames (t ∷ ts) = HoldsName t.kind × HoldNames ts
