-- The bytes that a call of a model in memory takes from those that were left.
use Rattle.std.proofs.Common.{◌≡◌, ℕ, ◌+◌, ◌<◌, List, [], ◌++◌, length, take, drop, min, Option, None, Some, sym, arith, take-append-drop}
use Rattle.std.proofs.lemmas.Grind.{common_steps}
use Rattle.std.proofs.lemmas.List.{drop-drop}
use Rattle.io_edge.specs.Memory.{rest_of}
use Rattle.io_edge.specs.declared.lists.NamedFile.{NamedFile}

rest_of-more : (files : List NamedFile) (current : Option ℕ) (at n : ℕ) → rest_of files current (at + n) ≡ drop n (rest_of files current at)
rest_of-more files None at n = grind (arith, common_steps)
rest_of-more files (Some place) at n = sym (drop-drop n at _)

none_of-min : (n a b : ℕ) (left : List ℕ) → n ≡ min (length left) (min a b) → 0 < a → 0 < b → n ≡ 0 → left ≡ []
none_of-min n a b left e p q z = grind (arith, common_steps)

pub rest_of-takes : (files : List NamedFile) (current : Option ℕ) (at piece n : ℕ) (into : List ℕ) → 0 < piece
    → n ≡ min (length (rest_of files current at)) (min piece (length into))
    → take n into ≡ take n (rest_of files current at)
    → (rest_of files current at ≡ take n into ++ rest_of files current (at + n))
    × (n ≡ 0 → 0 < length into → rest_of files current (at + n) ≡ [])
rest_of-takes files current at piece n into some count same =
    let left : List ℕ = rest_of files current at in
    let more = rest_of-more files current at n in (
      rw (more, same) (sym (take-append-drop n left)),
      λ none room. let empty : left ≡ [] = none_of-min n piece (length into) left count some room none in
          rw (more, empty) (grind (arith, common_steps)),
    )
