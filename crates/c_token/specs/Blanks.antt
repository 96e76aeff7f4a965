-- What stands between tokens: white space, comments and include lines (C11 6.4.9, 6.10.2).
use Rattle.std.specs.Prelude.{◌≡◌, ◌+◌, ℕ, Bool, true, if◌then◌else◌, List, [], ◌∷◌, Some, codes, nat_eq}
use Rattle.std.specs.List.{starts_with, position_or_len}
use Rattle.bstr.specs.Find.{FindsNeedle}
use Rattle.c_token.specs.Bytes.{is_space, is_gap, is_line_feed}

-- how many bytes stand before the next line feed, or before the end where there is none
abbrev pub line_len : List ℕ → ℕ
line_len bs = position_or_len is_line_feed bs

abbrev pub skip_gaps : List ℕ → List ℕ
skip_gaps [] = []
skip_gaps (b ∷ bs) = if is_gap b then skip_gaps bs else b ∷ bs

-- spaces and tabs, and then `include`
abbrev pub is_include : List ℕ → Bool
is_include bs = starts_with nat_eq (skip_gaps bs) (codes "include")

-- the first n bytes are a blank; `first` says that nothing but blanks stands before them on their line
pub data IsBlank (first : Bool) : List ℕ → ℕ → Type 0 where
  space : (b : ℕ) (bs : List ℕ) → is_space b ≡ true → IsBlank first (b ∷ bs) 1
  -- up to the first `*/`, so comments do not nest
  comment : (bs : List ℕ) (at : ℕ) → FindsNeedle bs (codes "*/") 0 (Some at) → IsBlank first (47 ∷ 42 ∷ bs) (at + 4)
  line_comment : (bs : List ℕ) → IsBlank first (47 ∷ 47 ∷ bs) (line_len bs + 2)
  include : (bs : List ℕ) → first ≡ true → is_include bs ≡ true → IsBlank first (35 ∷ bs) (line_len bs + 1)

abbrev pub BeginsNoBlank : Bool → List ℕ → Type 0
BeginsNoBlank first bs = (n : ℕ) → IsBlank first bs n → ⊥
