-- What every token of a reading holds.
use Rattle.std.specs.Prelude.{◌≡◌, ◌≤◌, ℕ, pos, Bool, ◌==◌, ◌||◌, All, IsTrue}
use Rattle.c_tree.specs.Names.{in_range, IsName, is_reserved}
use Rattle.c_token.specs.declared.token.Token.{Token}
use Rattle.c_token.specs.declared.token.TokenKind.{TokenKind}
use Rattle.c_token.specs.declared.token.TokenKind.TheVariants as kind
use Rattle.c_token.specs.Bytes.{is_mark}

-- what a unit stands for: a printable byte, what an escape names, or a byte from 128 on
abbrev pub is_unit : ℕ → Bool
is_unit v = in_range 32 126 v || (v == 0 || (v == 9 || (v == 10 || v == 13))) || in_range 128 255 v

abbrev pub IsFormedKind : TokenKind → Type 0
IsFormedKind (kind.Name w) = IsName w
IsFormedKind (kind.Word w) = IsTrue (is_reserved w)
IsFormedKind (kind.Num z) = (n : ℕ) × (z ≡ pos n) × (n ≤ 2147483647)
IsFormedKind (kind.Text units) = All (λ v. IsTrue (is_unit v)) units
IsFormedKind (kind.Char z) = (v : ℕ) × (z ≡ pos v) × IsTrue (is_unit v) × (v ≤ 126)
IsFormedKind (kind.Mark w) = IsTrue (is_mark w)

abbrev pub IsFormedToken : Token → Type 0
IsFormedToken t = IsFormedKind t.kind
