-- Which line of the second text holds what a line of the first one says.
use Rattle.std.specs.Prelude.{◌≡◌, ℕ, ◌-◌, ◌<◌, ◌≤◌, List, [], ◌∷◌, ◌++◌, map, length, take, codes}
use Rattle.std.specs.List.{flat_map}
use Rattle.own_cert.specs.declared.certificate.Certificate.{Certificate}
use Rattle.own_cert.specs.declared.lines.Version.TheVariants.{First, Second}
use Rattle.own_cert.specs.declared.lines.Line.{Line}
use Rattle.own_cert.specs.declared.lines.Line.TheVariants as line
use Rattle.own_cert.specs.Text.{lines_of}
use Rattle.own_cert.specs.Runs.{rows_of}

-- the first line is that of the second text
abbrev pub BeginsSecond : List ℕ → Type 0
BeginsSecond bs = (rest : List ℕ) × (bs ≡ codes "clouseau certificate 2\n" ++ rest)

-- the lines of the first text that a line of the second one stands for
abbrev pub first_lines_of : Line → List Line
first_lines_of (line.Header version) = line.Header First ∷ []
first_lines_of (line.Places run) = map line.Place (rows_of run)
first_lines_of l = l ∷ []

-- how many lines of the first text these stand for
abbrev pub held_by : List Line → ℕ
held_by ls = length (flat_map first_lines_of ls)

-- of these lines, line m, from 1, stands for line n of the first text: those before it for fewer lines than n, and
-- with it for n at least
pub record Stands (ls : List Line) (n m : ℕ) : Type 0 where
  pub some : 1 ≤ m
  pub within : m ≤ length ls
  pub before : held_by (take (m - 1) ls) < n
  pub up_to : n ≤ held_by (take m ls)

abbrev pub IsHolder : Certificate → ℕ → ℕ → Type 0
IsHolder c n m = Stands (lines_of Second c) n m

-- all of the first text is held
abbrev pub HoldsFirst : Certificate → Type 0
HoldsFirst c = flat_map first_lines_of (lines_of Second c) ≡ lines_of First c
