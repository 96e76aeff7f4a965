-- Files in memory: what is held under a name, and what is left of the open file.
use Rattle.std.specs.Prelude.{ℕ, List, [], drop, Option, None, Some, slice_get}
use Rattle.std.specs.Option.{option_map_or}
use Rattle.std.specs.List.{find}
use Rattle.std.specs.Str.{bytes_eq}
use Rattle.io_edge.specs.Held.{Held, Absent, Whole}
use Rattle.io_edge.specs.declared.lists.NamedFile.{NamedFile}

-- the bytes of the first record of the name
abbrev pub held_under : List NamedFile → List ℕ → Held
held_under files name = option_map_or (λ f. Whole f.bytes) (find (λ f. bytes_eq f.name name) files) Absent

-- the bytes of the record at a place, and none past the last record
abbrev pub bytes_at : List NamedFile → ℕ → List ℕ
bytes_at files place = option_map_or (λ f. f.bytes) (slice_get files place) []

-- the bytes of the open record from `at` on, and none where no record is open
abbrev pub rest_of : List NamedFile → Option ℕ → ℕ → List ℕ
rest_of files None at = []
rest_of files (Some place) at = drop at (bytes_at files place)
