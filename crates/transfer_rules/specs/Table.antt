-- Clauses with the names of their constraints, as flat lists: each name once, and for each clause the place of its name.
use Rattle.std.specs.Prelude.{◌≡◌, ℕ, ◌-◌, ◌<◌, ◌≤◌, List, [], ◌∷◌, length, map, take, drop, zero, suc, slice_index_or}
use Rattle.std.specs.List.{All}
use Rattle.zo_core.specs.Literals.{Literal}
use Rattle.conflict_proof.specs.declared.names.ConstraintName.{ConstraintName}
use Rattle.transfer_rules.specs.Names.{NamedClause}

-- the pieces of a list that end at these places, the first of them beginning at `from`
abbrev pub cut : ℕ → List ℕ → List Literal → List (List Literal)
cut from [] ls = []
cut from (e ∷ es) ls = take (e - from) ls ∷ cut e es (drop (e - from) ls)

-- the ends ascend, and the last of them is the length of the list
abbrev pub AreEnds : ℕ → List ℕ → List Literal → Type 0
AreEnds from [] ls = length ls ≡ 0
AreEnds from (e ∷ es) ls = (from ≤ e) × (e - from ≤ length ls) × AreEnds e es (drop (e - from) ls)

abbrev pub named : List ConstraintName → List (List Literal) → List NamedClause
named [] cs = []
named (n ∷ ns) [] = []
named (n ∷ ns) (c ∷ cs) = record { name = n; lits = c } ∷ named ns cs

abbrev pub rows : List ConstraintName → List ℕ → List Literal → List NamedClause
rows ns es ls = named ns (cut 0 es ls)

abbrev pub no_name : ConstraintName
no_name = record { proc = 0; place = 0; edge = 0; rule = 0; slot = 0; field = 0; other = 0 }

-- the names at these places
abbrev pub spread : List ConstraintName → List ℕ → List ConstraintName
spread ns os = map (λ i. slice_index_or ns i no_name) os

-- the places are those of names
abbrev pub ArePlaces : List ConstraintName → List ℕ → Type 0
ArePlaces ns os = All (λ i. i < length ns) os

pub record IsTable (ns : List ConstraintName) (es : List ℕ) (ls : List Literal) : Type 0 where
  pub count : length ns ≡ length es
  pub ends : AreEnds 0 es ls

abbrev pub no_clause : NamedClause
no_clause = record { name = no_name; lits = [] }

-- each name once, in place of one for each clause
pub record IsSpread (ns : List ConstraintName) (os es : List ℕ) (ls : List Literal) : Type 0 where
  pub places : ArePlaces ns os
  pub table : IsTable (spread ns os) es ls

-- more names after those that are there
pub record IsGrown (old new : List ConstraintName) : Type 0 where
  pub longer : length old ≤ length new
  pub kept : (i : ℕ) → i < length old → slice_index_or new i no_name ≡ slice_index_or old i no_name

-- where piece n begins
abbrev pub start : ℕ → List ℕ → ℕ → ℕ
start from es zero = from
start from [] (suc n) = from
start from (e ∷ es) (suc n) = start e es n
