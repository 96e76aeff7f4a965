-- Looking a clause up among lines: chains of lines by a number that depends on the clause.
use Rattle.std.specs.Prelude.{◌≡◌, ℕ, ◌+◌, ◌-◌, ◌*◌, ◌%◌, ◌<◌, ◌≤◌, cond, List, [], ◌∷◌, length, Some, slice_index_or}
use Rattle.zo_core.specs.Literals.{Literal}
use Rattle.zo_solver.specs.Clauses.{numbered, cost}
use Rattle.zo_solver.specs.Stores.{Shelf}
use Rattle.zo_solver.specs.Derived.{AreApart}
use Rattle.zo_solver.specs.declared.answers.Origin.{Origin}

abbrev pub literal_number : Literal → ℕ
literal_number l = 2 * l.var + cond l.sign 1 0

-- the number of a clause, from one of the literals before it
abbrev pub hash_from : ℕ → List Literal → ℕ
hash_from h [] = h
hash_from h (l ∷ c) = hash_from ((h * 1000003 + literal_number l) % 4294967291) c

unfoldable pub hash_of : List Literal → ℕ
hash_of c = hash_from 0 c

-- the clause of this number is in the bucket
abbrev pub IsInBucket : List (List Literal) → ℕ → ℕ → ℕ → Type 0
IsInBucket cs buckets b n = (c : List Literal) → numbered cs n ≡ Some c → hash_of c % buckets ≡ b

-- x is the last of the clauses up to n that is in the bucket, or 0
pub record IsLastIn (cs : List (List Literal)) (buckets b n x : ℕ) : Type 0 where
  pub within : x ≤ n
  pub here : 0 < x → IsInBucket cs buckets b x
  pub none : (m : ℕ) → x < m → m ≤ n → IsInBucket cs buckets b m → ⊥

-- each bucket leads to its last line, and each line to the one before it in its bucket
pub record AreLinked (cs : List (List Literal)) (count : ℕ) (heads links : List ℕ) : Type 0 where
  pub at_heads : (b : ℕ) → b < length heads → IsLastIn cs (length heads) b count (slice_index_or heads b 0)
  pub at_links : (n : ℕ) (c : List Literal) → 0 < n → n ≤ count → numbered cs n ≡ Some c → IsLastIn cs (length heads) (hash_of c % length heads) (n - 1) (slice_index_or links (n - 1) 0)

-- what holds of the parts of lines: each line but one costs two words at least, so there is room for half as many as words
pub record AreLines (s : Shelf) (origins : List Origin) (origins_len origins_room : ℕ) (heads : List ℕ) (heads_len : ℕ) (links : List ℕ) (links_len links_room : ℕ) : Type 0 where
  pub apart : AreApart s.clauses
  pub origins_length : length origins ≡ length s.clauses
  pub origins_count : origins_len ≡ length s.clauses
  pub origins_fit : cost s.clauses + s.words < 2 * origins_room
  pub links_length : length links ≡ length s.clauses
  pub links_count : links_len ≡ length s.clauses
  pub links_fit : cost s.clauses + s.words < 2 * links_room
  pub heads_count : heads_len ≡ length heads
  pub some : 0 < length heads
  pub linked : AreLinked s.clauses (length s.clauses) heads links
