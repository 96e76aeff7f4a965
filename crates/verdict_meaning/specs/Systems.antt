-- The constraints of a program, call group by call group.
use Rattle.std.specs.Prelude.{ℕ, suc, ◌+◌, ◌*◌, List, [], ◌∷◌, length, take, sum_by, slice_index_or, nat_eq, cond}
use Rattle.std.specs.List.{range_with_len}
use Rattle.zo_core.specs.Literals.{Literal}
use Rattle.conflict_proof.specs.declared.names.ConstraintName.{ConstraintName}
use Rattle.verdict_meaning.specs.declared.callee.Callee.{Callee}

-- Groups are numbered from 0, each after those that it calls. Unknowns are numbered from 1 in each group: first the
-- fields, then the interfaces of the members, then those of the procedures called at the sites, then those of places.
pub record System : Type 0 where
  -- the procedures of each group, ascending
  pub groups : List (List ℕ)
  -- how many pointer fields the program has
  pub fields : ℕ
  -- how many parts the interface of a procedure has
  pub parts : ℕ → ℕ
  -- how many places a procedure has, and how many unknowns each of them
  pub places : ℕ → ℕ
  pub width : ℕ → ℕ
  -- whom the sites of a group call
  pub sites : ℕ → List Callee
  -- the names of a group's constraints, in order
  pub names : ℕ → List ConstraintName
  -- the clauses of a constraint of a group
  pub clauses : ℕ → ConstraintName → List (List Literal)

-- The root stands above all groups: it has no constraints, and calls the first procedure of each group.

-- the root's number
abbrev pub root : System → ℕ
root s = length s.groups

-- the procedures of a group
abbrev pub members : System → ℕ → List ℕ
members s g = slice_index_or s.groups g []

-- the first procedure of a group
abbrev pub first : System → ℕ → ℕ
first s g = slice_index_or (members s g) 0 0

-- the first procedures of these groups, which are numbered from here
abbrev pub firsts : ℕ → List (List ℕ) → List Callee
firsts g [] = []
firsts g (ms ∷ gs) = record { proc = slice_index_or ms 0 0; group = g } ∷ firsts (suc g) gs

-- whom the sites of a group or of the root call
abbrev pub callees : System → ℕ → List Callee
callees s g = cond (nat_eq g (root s)) (firsts 0 s.groups) (s.sites g)

-- whom a site calls that does not exist
abbrev pub nobody : Callee
nobody = record { proc = 0; group = 0 }

-- whom a site of a group or of the root calls
abbrev pub callee : System → ℕ → ℕ → Callee
callee s g site = slice_index_or (callees s g) site nobody

-- the names of the constraints of a group; the root has none
abbrev pub names_of : System → ℕ → List ConstraintName
names_of s g = cond (nat_eq g (root s)) [] (s.names g)

-- Numbers of unknowns

-- how many parts the interfaces of the procedures before this one have
abbrev pub parts_before : System → ℕ → List ℕ → ℕ
parts_before s k [] = 0
parts_before s k (m ∷ ms) = cond (nat_eq m k) 0 (s.parts m + parts_before s k ms)

-- how many parts the interface of the called procedure has
abbrev pub callee_parts : System → Callee → ℕ
callee_parts s c = s.parts c.proc

-- the unknowns of the fields, in every group
abbrev pub phi_numbers : System → List ℕ
phi_numbers s = range_with_len 1 s.fields

-- the unknowns of a member's interface
abbrev pub pi_numbers : System → ℕ → ℕ → List ℕ
pi_numbers s g k = range_with_len (suc (s.fields + parts_before s k (members s g))) (s.parts k)

-- the unknowns of the interface of the procedure that is called at a site
abbrev pub sigma_numbers : System → ℕ → ℕ → List ℕ
sigma_numbers s g site =
    range_with_len (suc (s.fields + sum_by s.parts (members s g) + sum_by (callee_parts s) (take site (callees s g)))) (callee_parts s (callee s g site))

-- how many unknowns the places of a procedure have
abbrev pub place_count : System → ℕ → ℕ
place_count s k = s.places k * s.width k

-- how many unknowns a group or the root has
abbrev pub count : System → ℕ → ℕ
count s g = s.fields + sum_by s.parts (members s g) + sum_by (callee_parts s) (callees s g) + sum_by (place_count s) (members s g)
