-- Lines of bytes, each with a line feed after it.
use Rattle.std.specs.Prelude.{◌≡◌, ℕ, zero, suc, ◌+◌, ◌<◌, ◌≤◌, ◌==◌, if◌then◌else◌, List, [], ◌∷◌, ◌++◌}
use Rattle.std.specs.List.{flat_map}

-- lines with a line feed after each
abbrev pub with_line_feeds : List (List ℕ) → List ℕ
with_line_feeds lines = flat_map (λ l. l ++ 10 ∷ []) lines

-- how many lines end in the bytes
abbrev pub line_feeds : List ℕ → ℕ
line_feeds [] = 0
line_feeds (b ∷ bs) = if b == 10 then suc (line_feeds bs) else line_feeds bs

-- the first n lines, with their line feeds; all of the bytes, where no more than n line feeds are in them
abbrev pub first_lines : ℕ → List ℕ → List ℕ
first_lines zero bs = []
first_lines (suc n) [] = []
first_lines (suc n) (b ∷ bs) = b ∷ (if b == 10 then first_lines n bs else first_lines (suc n) bs)

-- a line, a line feed, and the rest
pub record IsCut (bs line rest : List ℕ) : Type 0 where
  pub text : bs ≡ line ++ 10 ∷ rest
  pub lone : line_feeds line ≡ 0

-- Line n, from 1, is the first that can't be continued: the lines before it begin a text, and those up to it
-- don't. What follows the last line feed counts as a line that can't be continued, since it ends without one.
-- Which bytes begin a text is for each kind of text to say.
pub record IsFirstBadLineOf (Begins : List ℕ → Type 0) (bs : List ℕ) (n : ℕ) : Type 0 where
  pub before : (k : ℕ) → k < n → Begins (first_lines k bs)
  pub here : n ≤ line_feeds bs → Begins (first_lines n bs) → ⊥
  pub within : n ≤ line_feeds bs + 1
