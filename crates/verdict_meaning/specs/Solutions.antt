-- Which assignments solve a program's constraints, or those of some names.
use Rattle.std.specs.Prelude.{◌≡◌, ℕ, ◌<◌, Bool, true, ◌||◌, List, length, map, nat_eq}
use Rattle.std.specs.List.{Contains}
use Rattle.zo_core.specs.Truth.{all_true}
use Rattle.conflict_proof.specs.declared.names.ConstraintName.{ConstraintName}
use Rattle.verdict_meaning.specs.Systems.{System, root, first, callee, callees, names_of, phi_numbers, pi_numbers, sigma_numbers}

-- the number of the rule that an unknown keeps its value, which is always in force
abbrev pub same_rule : ℕ
same_rule = 21

-- a constraint counts where its name is one of these, or is of that rule
abbrev pub counts : (ConstraintName → Bool) → ConstraintName → Bool
counts U n = nat_eq n.rule same_rule || U n

-- the assignment of a group's unknowns meets each constraint that counts
abbrev pub IsLocal : System → (ConstraintName → Bool) → ℕ → (ℕ → Bool) → Type 0
IsLocal s U g a = (n : ConstraintName) → Contains (names_of s g) n → counts U n ≡ true → all_true a (s.clauses g n) ≡ true

-- which fields own by an assignment
abbrev pub phi_by : System → (ℕ → Bool) → List Bool
phi_by s a = map a (phi_numbers s)

-- the interface of a member by an assignment of its group
abbrev pub pi_by : System → ℕ → (ℕ → Bool) → ℕ → List Bool
pi_by s g a k = map a (pi_numbers s g k)

-- the interface that an assignment of a group asks for at a site
abbrev pub sigma_by : System → ℕ → (ℕ → Bool) → ℕ → List Bool
sigma_by s g a site = map a (sigma_numbers s g site)

-- In group g, procedure h can have interface v where fields own as phi says: some assignment of the group says so and
-- meets the group's constraints, and at each site the called procedure can have the interface that it asks for.
pub data IsSolvable (s : System) (U : ConstraintName → Bool) (phi : List Bool) : ℕ → ℕ → List Bool → Type 0 where
  by_assignment : {g h : ℕ} {v : List Bool} (a : ℕ → Bool)
      → phi_by s a ≡ phi
      → pi_by s g a h ≡ v
      → IsLocal s U g a
      → ((site : ℕ) → site < length (callees s g) → IsSolvable s U phi (callee s g site).group (callee s g site).proc (sigma_by s g a site))
      → IsSolvable s U phi g h v

-- the constraints that count can be met: there is one choice of owning fields with which the first procedure of each
-- group can have some interface
pub record IsSatisfiableOnly (s : System) (U : ConstraintName → Bool) : Type 0 where
  pub phi : List Bool
  pub shape : length phi ≡ s.fields
  pub each : (g : ℕ) → g < root s → (face : List Bool) × IsSolvable s U phi g (first s g) face

-- every name counts
abbrev pub all_names : ConstraintName → Bool
all_names n = true

-- all constraints can be met
abbrev pub IsSatisfiable : System → Type 0
IsSatisfiable s = IsSatisfiableOnly s all_names

-- an assignment of a group, or of the root, that meets its constraints and asks at each site for what can be had
pub record IsAdmitted (s : System) (U : ConstraintName → Bool) (g : ℕ) (a : ℕ → Bool) : Type 0 where
  pub local : IsLocal s U g a
  pub sites : (site : ℕ) → site < length (callees s g) → IsSolvable s U (phi_by s a) (callee s g site).group (callee s g site).proc (sigma_by s g a site)
