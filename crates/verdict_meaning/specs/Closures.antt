-- What propagation alone gives: the least set of literals that clauses and called groups force.
use Rattle.std.specs.Prelude.{◌≡◌, ◌≢◌, ℕ, ◌<◌, ◌≤◌, Bool, true, List, [], Some, length}
use Rattle.std.specs.List.{Contains}
use Rattle.zo_core.specs.Literals.{Literal, yes, no, opposite}
use Rattle.conflict_proof.specs.declared.names.ConstraintName.{ConstraintName}
use Rattle.verdict_meaning.specs.Systems.{System, root, callee, callees, names_of}
use Rattle.verdict_meaning.specs.Solutions.{counts}
use Rattle.verdict_meaning.specs.Derivations.{at_site, carried_number}

-- at a site of group g the literal l stands for the literal m of the called group: fields stand for themselves, and what
-- the site asks for stands for the interface of the called procedure
pub record StandsFor (s : System) (g site : ℕ) (l m : Literal) : Type 0 where
  pub unknown : carried_number (at_site s g site) m.var ≡ Some l.var
  pub sign : l.sign ≡ m.sign

-- The literal is in the least set of a group's literals that holds those given, holds a literal of a clause wherever it
-- holds the opposite of each other literal of that clause, and holds at each site what stands for a literal of the called
-- group's set, for which nothing is given. Clauses are those of the constraints that count.
pub data Closed (s : System) (U : ConstraintName → Bool) : ℕ → List Literal → Literal → Type 0 where
  given : {g : ℕ} {from : List Literal} {l : Literal} → Contains from l → Closed s U g from l
  forced : {g : ℕ} {from : List Literal} {l : Literal} (name : ConstraintName) (c : List Literal)
      → Contains (names_of s g) name → counts U name ≡ true → Contains (s.clauses g name) c → Contains c l
      → ((m : Literal) → Contains c m → m ≢ l → Closed s U g from (opposite m)) → Closed s U g from l
  carried : {g : ℕ} {from : List Literal} {l : Literal} (site : ℕ) (m : Literal)
      → site < length (callees s g) → StandsFor s g site l m → Closed s U (callee s g site).group [] m → Closed s U g from l

-- the set of some group or of the root, for which nothing is given, holds an unknown in both signs
pub record IsUnitRefuted (s : System) (U : ConstraintName → Bool) : Type 0 where
  pub group : ℕ
  pub there : group ≤ root s
  pub unknown : ℕ
  pub positive : Closed s U group [] (yes unknown)
  pub negative : Closed s U group [] (no unknown)
