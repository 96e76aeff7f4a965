-- The tokens of a reading hold names.
use Rattle.std.proofs.Common.{suc, List, [], ◌∷◌, arith}
use Rattle.std.specs.Prelude.{All}
use Rattle.c_token.specs.declared.token.Token.{Token}
use Rattle.c_token.specs.declared.token.TokenKind.{TokenKind}
use Rattle.c_token.specs.declared.token.TokenKind.TheVariants as kind
use Rattle.c_token.specs.Formed.{IsFormedKind, IsFormedToken}
use Rattle.c_grammar.specs.Named.{HoldsName, HoldNames}

kind_holds : (k : TokenKind) → IsFormedKind k → HoldsName k
kind_holds (kind.Name w) f = f
kind_holds _ f = tt

pub names_held : (ts : List Token) → All IsFormedToken ts → HoldNames ts
names_held [] f = tt
names_held (t ∷ ts) f = (kind_holds t.kind (f 0 t (omega arith)), names_held ts (λ k d less. f (suc k) d (omega arith)))
