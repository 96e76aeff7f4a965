-- The reading of bytes as tokens, and the place where none goes on.
use Rattle.std.specs.Prelude.{◌<◌, ◌+◌, ℕ, suc, Bool, true, false, ◌||◌, if◌then◌else◌, List, [], ◌∷◌, ◌++◌, length, take, drop, count_by}
use Rattle.std.specs.List.{list_any}
use Rattle.c_tree.specs.declared.position.Span.{Span}
use Rattle.c_token.specs.declared.token.Token.{Token}
use Rattle.c_token.specs.declared.token.TokenKind.{TokenKind}
use Rattle.c_token.specs.declared.token.LexError.{LexError}
use Rattle.c_token.specs.declared.token.LexError.TheVariants as error
use Rattle.c_token.specs.Bytes.{is_line_feed}
use Rattle.c_token.specs.Blanks.{IsBlank, BeginsNoBlank}
use Rattle.c_token.specs.Forms.{IsToken, BeginsNoToken}

-- the line of the byte at place k, from 1
abbrev pub line_at : List ℕ → ℕ → ℕ
line_at bytes k = suc (count_by is_line_feed (take k bytes))

-- the column after these bytes: a line feed begins a line, each other byte is one column
abbrev pub col_after : ℕ → List ℕ → ℕ
col_after col [] = col
col_after col (b ∷ bs) = col_after (if is_line_feed b then 1 else suc col) bs

-- the column of the byte at place k, from 1
abbrev pub col_at : List ℕ → ℕ → ℕ
col_at bytes k = col_after 1 (take k bytes)

-- the span of the n bytes from place k on
abbrev pub span_at : List ℕ → ℕ → ℕ → Span
span_at bytes k n = record { start = k; end = k + n; line = line_at bytes k; col = col_at bytes k }

-- one blank or one token, from a place to the next; `first` says that only blanks stand before the place on its line
pub data Passes (bytes : List ℕ) (at : ℕ) (first : Bool) : ℕ → Bool → List Token → Type 0 where
  blank : (n : ℕ) → IsBlank first (drop at bytes) n
      → Passes bytes at first (at + n) (first || list_any is_line_feed (take n (drop at bytes))) []
  token : (kind : TokenKind) (n : ℕ) → BeginsNoBlank first (drop at bytes) → IsToken (drop at bytes) kind n
      → Passes bytes at first (at + n) false (record { kind = kind; at = span_at bytes at n } ∷ [])

-- blanks and these tokens, one after another, lead from the first byte to a place
pub data Reaches (bytes : List ℕ) : List Token → ℕ → Bool → Type 0 where
  start : Reaches bytes [] 0 true
  further : (ts us : List Token) (at next : ℕ) (first first' : Bool) → Reaches bytes ts at first
      → Passes bytes at first next first' us → Reaches bytes (ts ++ us) next first'

-- the tokens of the bytes
pub record IsTokenReading (bytes : List ℕ) (tokens : List Token) : Type 0 where
  pub first : Bool
  pub reaches : Reaches bytes tokens (length bytes) first

-- blanks and tokens lead to place k, where bytes are left and neither a blank nor a token begins
pub record IsStuck (bytes : List ℕ) (k : ℕ) : Type 0 where
  pub tokens : List Token
  pub first : Bool
  pub reaches : Reaches bytes tokens k first
  pub left : k < length bytes
  pub no_blank : BeginsNoBlank first (drop k bytes)
  pub no_token : BeginsNoToken (drop k bytes)

-- why a list of bytes is refused: want of memory, or a place where no token begins
abbrev pub IsCause : List ℕ → LexError → Type 0
IsCause bytes error.Memory = Unit {0}
IsCause bytes (error.Lex k) = IsStuck bytes k
