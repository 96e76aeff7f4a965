-- A number for each literal of each group.
use Rattle.std.specs.Prelude.{ℕ, ◌+◌, ◌*◌, ◌<◌, cond, List, [], length, slice_index, slice_index_or, slice_set}
use Rattle.zo_core.specs.Literals.{Literal}

-- the place of a literal in its group's row
abbrev pub code_of : Literal → ℕ
code_of l = 2 * l.var + cond l.sign 1 0

-- the row of a group
abbrev pub row_of : List (List ℕ) → ℕ → List ℕ
row_of rows group = slice_index_or rows group []

-- there is a number for the literal of the group
abbrev pub HasRoom : List (List ℕ) → ℕ → Literal → Type 0
HasRoom rows group lit = code_of lit < length (row_of rows group)

-- the number of the literal of the group
abbrev pub number_of : List (List ℕ) → ℕ → Literal → ℕ
number_of rows group lit = slice_index (row_of rows group) (code_of lit)

-- the numbers with another one for the literal of the group
abbrev pub with_number : List (List ℕ) → ℕ → Literal → ℕ → List (List ℕ)
with_number rows group lit number = slice_set rows group (slice_set (row_of rows group) (code_of lit) number)
