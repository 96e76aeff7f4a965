-- Names in order of their first occurrence.
use Rattle.std.specs.Prelude.{ℕ, Bool, List, [], ◌∷◌, ◌++◌, bytes_eq, if◌then◌else◌}
use Rattle.std.specs.List.{list_any}

-- a name is among these
abbrev pub has_name : List (List ℕ) → List ℕ → Bool
has_name names x = list_any (bytes_eq x) names

-- the names, and this one last where it is new
unfoldable pub with_name : List (List ℕ) → List ℕ → List (List ℕ)
with_name names x = if has_name names x then names else names ++ x ∷ []

-- the names, and each of these that is new
abbrev pub with_names : List (List ℕ) → List (List ℕ) → List (List ℕ)
with_names names [] = names
with_names names (x ∷ xs) = with_names (with_name names x) xs
