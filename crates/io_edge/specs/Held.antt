-- What a store of files tells about one name, and what is left to read after the file is opened.
use Rattle.std.specs.Prelude.{◌≡◌, ℕ, List, Option, Some, ⊤}

-- nothing is told; there is no file of that name; the file has just these bytes
pub data Held : Type 0 where
  Untold : Held
  Absent : Held
  Whole : List ℕ → Held

-- after a name is opened, all that is held under it is left to read;
-- a name that holds nothing cannot be opened
abbrev pub Opens : Held → Option (List ℕ) → Type 0
Opens Untold left = ⊤
Opens Absent left = ⊥
Opens (Whole bytes) left = left ≡ Some bytes
