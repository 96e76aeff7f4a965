-- The first record of a name, found by going through the records.
use Rattle.std.proofs.Common.{◌≡◌, ℕ, ◌<◌, List, [], length, get_or, Bool, true, false, refl, arith}
use Rattle.std.specs.Str.{bytes_eq}
use Rattle.std.specs.List.{position_or_len}
use Rattle.std.proofs.lemmas.List.Folds.{find_at}
use Rattle.std.proofs.lemmas.List.Sums.{position_or_len_is}
use Rattle.std.proofs.lemmas.Option.{slice_get_read, slice_get_past}
use Rattle.io_edge.specs.Held.{Absent, Whole}
use Rattle.io_edge.specs.Memory.{held_under, bytes_at}
use Rattle.io_edge.specs.declared.lists.NamedFile.{NamedFile}

-- no record below a place has the name
abbrev pub NoneBelow : List NamedFile → List ℕ → ℕ → Type 0
NoneBelow files name place = (k : ℕ) (d : NamedFile) → k < place → bytes_eq (get_or files k d).name name ≡ false

pub held_at_first : (files : List NamedFile) (name : List ℕ) (place : ℕ) (f : NamedFile) → place < length files
    → f ≡ get_or files place f → NoneBelow files name place → bytes_eq f.name name ≡ true
    → held_under files name ≡ Whole (bytes_at files place)
held_at_first files name place f within read before same =
    let p : NamedFile → Bool = λ g. bytes_eq g.name name in
    let at : p (get_or files place f) ≡ true = rw (← read) same in
    let first : position_or_len p files ≡ place =
    position_or_len_is p files place f (omega arith) (λ k below. before k f below) (λ _. at) in
    rw (find_at p files, first, slice_get_read files (length files) place f refl within read) refl

pub held_nowhere : (files : List NamedFile) (name : List ℕ) → NoneBelow files name (length files) → held_under files name ≡ Absent
held_nowhere files name before =
    let p : NamedFile → Bool = λ g. bytes_eq g.name name in
    let none : NamedFile = record { name = []; bytes = [] } in
    let past : position_or_len p files ≡ length files =
    position_or_len_is p files (length files) none (omega arith) (λ k below. before k none below) (λ below. absurd (omega arith)) in
    rw (find_at p files, past, slice_get_past files (length files) (omega arith)) refl
