-- The forms of a token, and the longest match (C11 6.4).
use Rattle.std.specs.Prelude.{◌≡◌, ◌<◌, ◌≤◌, ℕ, pos, Bool, false, List, [], ◌∷◌, length, take, Option, Some, option_map, codes, IsTrue, nat_eq}
use Rattle.std.specs.List.{starts_with}
use Rattle.c_tree.specs.Names.{IsName, is_reserved}
use Rattle.c_token.specs.declared.token.TokenKind.{TokenKind}
use Rattle.c_token.specs.declared.token.TokenKind.TheVariants as kind
use Rattle.c_token.specs.Bytes.{is_run, number_of, IsQuoted, is_mark}

abbrev pub number_kind : ℕ → TokenKind
number_kind n = kind.Num (pos n)

-- all of these bytes have the form of a token; with the token that they are, which a run may lack
pub data Form : List ℕ → Option TokenKind → Type 0 where
  name : (w : List ℕ) → IsName w → Form w (Some (kind.Name w))
  word : (w : List ℕ) → IsTrue (is_reserved w) → Form w (Some (kind.Word w))
  number : (w : List ℕ) → IsTrue (is_run w) → Form w (option_map number_kind (number_of w))
  text : (w units : List ℕ) → IsQuoted 34 w units → Form (34 ∷ w) (Some (kind.Text units))
  char : (w : List ℕ) (unit : ℕ) → IsQuoted 39 w (unit ∷ []) → Form (39 ∷ w) (Some (kind.Char (pos unit)))
  mark : (w : List ℕ) → IsTrue (is_mark w) → Form w (Some (kind.Mark w))

abbrev pub opens_comment : List ℕ → Bool
opens_comment = λ bs. starts_with nat_eq bs (codes "/*")

-- the first n bytes are the token at the front: they have the form of one, and no more bytes have a form
pub record IsToken (bs : List ℕ) (kind : TokenKind) (n : ℕ) : Type 0 where
  pub fits : n ≤ length bs
  pub formed : Form (take n bs) (Some kind)
  pub longest : (m : ℕ) (k : Option TokenKind) → n < m → m ≤ length bs → Form (take m bs) k → ⊥
  -- what opens a comment is no token, closed or not
  pub apart : opens_comment bs ≡ false

abbrev pub BeginsNoToken : List ℕ → Type 0
BeginsNoToken bs = (kind : TokenKind) (n : ℕ) → IsToken bs kind n → ⊥
