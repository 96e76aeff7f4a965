-- What bytes are read as a line, or as a part of one.
use Rattle.std.specs.Prelude.{◌≡◌, ◌≢◌, ℕ, Bool, List, [], ◌∷◌, ◌++◌, map, MatchOption, Option}
use Rattle.conflict_proof.specs.Text.{numbers_text}
use Rattle.own_cert.specs.declared.lines.Line.{Line}
use Rattle.own_cert.specs.Text.{digit, bits_text, line_text}
use Rattle.own_cert.specs.Values.{IsLine}

-- a word, numbers and bits, and a line feed
abbrev pub words_text : List ℕ → List ℕ → List Bool → List ℕ
words_text word numbers bits = word ++ (numbers_text numbers ++ (bits_text bits ++ 10 ∷ []))

-- no line is so
abbrev pub NoLine : List ℕ → Type 0
NoLine bs = (l : Line) → IsLine l → bs ≢ line_text l

-- the bytes say the line
pub record Says (bs : List ℕ) (l : Line) : Type 0 where
  pub is : IsLine l
  pub text : bs ≡ line_text l

-- the line that the bytes say, if they say one
abbrev pub IsRead : List ℕ → Option Line → Type 0
IsRead bs o = MatchOption o (NoLine bs) (Says bs)

-- the byte is neither 0 nor 1
abbrev pub IsNoDigit : ℕ → Type 0
IsNoDigit byte = (b : Bool) → byte ≢ digit b

abbrev pub NoDigits : List ℕ → Type 0
NoDigits bs = (bits : List Bool) → bs ≢ map digit bits

abbrev pub NoBits : List ℕ → Type 0
NoBits bs = (bits : List Bool) → bs ≢ bits_text bits

abbrev pub IsBitsText : List ℕ → List Bool → Type 0
IsBitsText bs bits = bs ≡ bits_text bits
