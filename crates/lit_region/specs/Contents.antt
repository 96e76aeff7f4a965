-- What a contract sees of a region: its size, and the clauses in it.
use Rattle.std.specs.Prelude.{◌≡◌, ℕ, zero, suc, ◌+◌, ◌<◌, ◌≤◌, List, [], ◌∷◌, length, map, slice_index_or, refl}
use Rattle.std.specs.Coded.{Coded, code_by, coded×, coded_ℕ, coded_list}
use Rattle.zo_core.specs.Literals.{Literal, literal_code}

-- how many words the region has, and its live clauses that have a literal, in the order in which they were put.
-- A reference is the number of its clause in this list, from 1; it is 0 where the clause has no literals, which
-- takes no word and is live at all times. A mark is how many clauses were live when it was taken.
pub record Contents : Type 0 where
  pub size : ℕ
  pub clauses : List (List Literal)

-- contents are stored as the pair of their fields
abbrev pub contents_code : Coded Contents
contents_code =
    code_by (ℕ × List (List Literal)) (coded× coded_ℕ (coded_list (coded_list literal_code))) (λ c. (c.size, c.clauses))
    (λ p. record { size = p.0; clauses = p.1 }) (λ _. refl)

-- the words that clauses take, a literal one word
abbrev pub word_count : List (List Literal) → ℕ
word_count [] = 0
word_count (c ∷ cs) = length c + word_count cs

-- the reference is live
abbrev pub IsLive : Contents → ℕ → Type 0
IsLive r at = at ≤ length r.clauses

-- the literals that a reference reads
abbrev pub clause_at : List (List Literal) → ℕ → List Literal
clause_at cs zero = []
clause_at cs (suc k) = slice_index_or cs k []

-- the references up to n read what they read before
abbrev pub ReadSame : ℕ → Contents → Contents → Type 0
ReadSame n old new = (at : ℕ) → at ≤ n → clause_at new.clauses at ≡ clause_at old.clauses at

-- the literals that each of some references reads
abbrev pub clauses_at : List (List Literal) → List ℕ → List (List Literal)
clauses_at cs rs = map (clause_at cs) rs

-- the references are live and in the order in which their clauses were put, none twice: those of clauses with
-- literals ascend strictly from above `last`, up to `count`
abbrev pub AreInOrder : ℕ → ℕ → List ℕ → Type 0
AreInOrder last count [] = Unit {0}
AreInOrder last count (zero ∷ rs) = AreInOrder last count rs
AreInOrder last count (suc k ∷ rs) = (last ≤ k) × (k < count) × AreInOrder (suc k) count rs

-- the clauses of these references, without those that have no literals
abbrev pub chosen : List (List Literal) → List ℕ → List (List Literal)
chosen cs [] = []
chosen cs (zero ∷ rs) = chosen cs rs
chosen cs (suc k ∷ rs) = slice_index_or cs k [] ∷ chosen cs rs

-- the references numbered anew, where `count` clauses come before
abbrev pub renumbered : ℕ → List ℕ → List ℕ
renumbered count [] = []
renumbered count (zero ∷ rs) = zero ∷ renumbered count rs
renumbered count (suc k ∷ rs) = suc count ∷ renumbered (suc count) rs
