-- The bytes that the tokens of C are made of (C11 6.4), by their ASCII codes.
use Rattle.std.specs.Prelude.{◌≡◌, ℕ, Bool, true, false, not, ◌==◌, ◌-◌, ◌+◌, ◌*◌, ◌&&◌, ◌||◌, if◌then◌else◌, nat_le, List, [], ◌∷◌, Option, Some, None, codes, bytes_eq}
use Rattle.std.specs.List.{list_any, list_all}
use Rattle.c_tree.specs.Names.{in_range, is_digit, is_word_byte}

abbrev pub is_line_feed : ℕ → Bool
is_line_feed b = b == 10

-- a space, or one of tab, line feed, vertical tab, form feed and carriage return
abbrev pub is_space : ℕ → Bool
is_space b = b == 32 || in_range 9 13 b

-- a space or a tab
abbrev pub is_gap : ℕ → Bool
is_gap b = b == 32 || b == 9

-- what a number goes on with, and what looks like one (C11 6.4.8)
abbrev pub is_run_byte : ℕ → Bool
is_run_byte b = is_word_byte b || b == 46

-- a digit, then letters, digits, `_` and `.`
abbrev pub is_run : List ℕ → Bool
is_run [] = false
is_run (b ∷ bs) = is_digit b && list_all is_run_byte bs

-- `0`, or digits of which the first is not 0
abbrev pub is_decimal : List ℕ → Bool
is_decimal [] = false
is_decimal (b ∷ bs) = bytes_eq (b ∷ bs) (codes "0") || (in_range 49 57 b && list_all is_digit bs)

-- the number that digits spell after those of n
abbrev pub value_from : ℕ → List ℕ → ℕ
value_from n [] = n
value_from n (b ∷ bs) = value_from (10 * n + (b - 48)) bs

-- the number that a run spells, if it is one that an int holds
abbrev pub number_of : List ℕ → Option ℕ
number_of w = if is_decimal w && nat_le (value_from 0 w) 2147483647 then Some (value_from 0 w) else None

-- a byte that stands for itself between these quotes: a printable one but the quote and `\`, and in a string one from 128 on
abbrev pub is_plain : ℕ → ℕ → Bool
is_plain quote b = (in_range 32 126 b && not (b == quote || b == 92)) || (quote == 34 && in_range 128 255 b)

abbrev pub begins_octal : List ℕ → Bool
begins_octal [] = false
begins_octal (b ∷ bs) = in_range 48 55 b

-- what `\c` stands for before these bytes: `\0` only where no octal digit follows, then `\n`, `\t` and `\r`, and `\\`, `\'` and `\"`
abbrev pub escaped : ℕ → List ℕ → Option ℕ
escaped c bs =
    if c == 48 then (if begins_octal bs then None else Some 0)
    else (if c == 110 then Some 10
    else (if c == 116 then Some 9
    else (if c == 114 then Some 13
    else (if c == 92 || c == 39 || c == 34 then Some c else None))))

-- units and then the quote, with the numbers that the units stand for
pub data IsQuoted (quote : ℕ) : List ℕ → List ℕ → Type 0 where
  closed : IsQuoted quote (quote ∷ []) []
  plain : (b : ℕ) (bs vs : List ℕ) → is_plain quote b ≡ true → IsQuoted quote bs vs → IsQuoted quote (b ∷ bs) (b ∷ vs)
  escape : (c v : ℕ) (bs vs : List ℕ) → escaped c bs ≡ Some v → IsQuoted quote bs vs → IsQuoted quote (92 ∷ c ∷ bs) (v ∷ vs)

-- the punctuators (of C11 6.4.6)
abbrev pub marks : List (List ℕ)
marks =
    codes "(" ∷ codes ")" ∷ codes "{" ∷ codes "}" ∷ codes "[" ∷ codes "]" ∷ codes ";" ∷ codes "," ∷
    codes "*" ∷ codes "=" ∷ codes "==" ∷ codes "!=" ∷ codes "<" ∷ codes "<=" ∷ codes ">" ∷ codes ">=" ∷
    codes "+" ∷ codes "++" ∷ codes "-" ∷ codes "--" ∷ codes "->" ∷ codes "/" ∷ codes "%" ∷ codes "!" ∷
    codes "&&" ∷ codes "||" ∷ []

abbrev pub is_mark : List ℕ → Bool
is_mark w = list_any (bytes_eq w) marks
