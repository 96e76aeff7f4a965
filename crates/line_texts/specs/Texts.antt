-- Kinds of texts that are read line by line: by states and the lines that lead from one to the next.
use Rattle.std.specs.Prelude.{◌≡◌, ℕ, ◌+◌, ◌<◌, ◌^◌, List, [], ◌∷◌, ◌++◌, length, map, Option, Some, None}
use Rattle.std.specs.List.{AllByRecursion}
use Rattle.line_texts.specs.Lines.{with_line_feeds, line_feeds}

pub record Kind : Type 1 where
  -- what a line says, where reading stands, and what a text is the text of
  pub Line : Type 0
  pub State : Type 0
  pub Value : Type 0
  pub line_text : Line → List ℕ
  pub IsLine : Line → Type 0
  pub start : State
  -- where reading stands after one line more; None where no text goes on so
  pub next : State → Line → Option State
  -- where it stands once a value is whole
  pub done : Value → State
  pub IsValue : Value → Type 0
  -- the lines of a text of a value, which may have several texts
  pub AreLinesOf : Value → List Line → Type 0

module _ (k : Kind) where
  abbrev pub bytes_of : List k.Line → List ℕ
  bytes_of ls = with_line_feeds (map k.line_text ls)

  abbrev pub AreLines : List k.Line → Type 0
  AreLines ls = AllByRecursion k.IsLine ls

  abbrev pub IsTextOf : k.Value → List ℕ → Type 0
  IsTextOf v bs = (ls : List k.Line) × k.AreLinesOf v ls × (bs ≡ bytes_of ls)

  -- the bytes can be continued to a text
  abbrev pub BeginsText : List ℕ → Type 0
  BeginsText bs = (v : k.Value) × k.IsValue v × (more : List ℕ) × IsTextOf v (bs ++ more)

  -- the bytes are no text
  abbrev pub IsNoText : List ℕ → Type 0
  IsNoText bs = (v : k.Value) → k.IsValue v → IsTextOf v bs → ⊥

  -- where lines lead to
  abbrev pub step : Option k.State → k.Line → Option k.State
  step None l = None
  step (Some s) l = k.next s l

  abbrev pub walk : Option k.State → List k.Line → Option k.State
  walk o [] = o
  walk o (l ∷ ls) = walk (step o l) ls

  -- the bytes of a line lead from state to state
  pub record Leads (s : k.State) (bytes : List ℕ) (t : k.State) : Type 0 where
    pub line : k.Line
    pub is : k.IsLine line
    pub text : bytes ≡ k.line_text line
    pub next : k.next s line ≡ Some t

  -- no line that the bytes say leads on
  abbrev pub Wrong : k.State → List ℕ → Type 0
  Wrong s bytes = (l : k.Line) → k.IsLine l → bytes ≡ k.line_text l → k.next s l ≡ None

  -- these lines are the first of some text
  pub record AreBegun (ls : List k.Line) : Type 0 where
    pub value : k.Value
    pub is : k.IsValue value
    pub others : List k.Line
    pub lines : k.AreLinesOf value (ls ++ others)

  -- What makes such a kind readable: a line has no line feed in it and is told by its bytes, the lines of a text lead to its
  -- value, and lines that lead somewhere begin a text, which is whole where they lead to a value. (Texts of 2 ^ 64 lines and
  -- more are none.)
  pub record IsReadable : Type 0 where
    pub lone : (l : k.Line) → k.IsLine l → line_feeds (k.line_text l) ≡ 0
    pub one_line : (l m : k.Line) → k.IsLine l → k.IsLine m → k.line_text l ≡ k.line_text m → l ≡ m
    pub one_value : (v w : k.Value) → k.done v ≡ k.done w → v ≡ w
    pub are_lines : (v : k.Value) (ls : List k.Line) → k.IsValue v → k.AreLinesOf v ls → AreLines ls
    pub leads : (v : k.Value) (ls : List k.Line) → k.AreLinesOf v ls → walk (Some k.start) ls ≡ Some (k.done v)
    pub begins : (s : k.State) (ls : List k.Line) → AreLines ls → walk (Some k.start) ls ≡ Some s → length ls + 1 < 2 ^ 64 → AreBegun ls
    pub whole : (v : k.Value) (ls : List k.Line) → AreLines ls → walk (Some k.start) ls ≡ Some (k.done v) → length ls + 1 < 2 ^ 64
        → k.IsValue v × k.AreLinesOf v ls
