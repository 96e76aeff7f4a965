-- Answers without search: where the assignments that propagation alone makes are solutions.
use Rattle.std.specs.Prelude.{◌≡◌, ℕ, ◌<◌, ◌≤◌, ◌↔◌, Bool, true, List, [], ◌∷◌, ◌++◌, length}
use Rattle.zo_core.specs.Literals.{Literal, yes}
use Rattle.conflict_proof.specs.declared.names.ConstraintName.{ConstraintName}
use Rattle.verdict_meaning.specs.Systems.{System, root, first, callee, callees, phi_numbers, pi_numbers, count}
use Rattle.verdict_meaning.specs.Solutions.{IsLocal, phi_by, pi_by, sigma_by}
use Rattle.verdict_meaning.specs.Closures.{Closed}

-- the literals that give these unknowns these values
abbrev pub said : List ℕ → List Bool → List Literal
said [] bs = []
said (v ∷ vs) [] = []
said (v ∷ vs) (b ∷ bs) = record { var = v; sign = b } ∷ said vs bs

-- the assignment gives 1 to exactly those of the group's unknowns whose positive literals are in the least set
abbrev pub IsLeast : System → (ConstraintName → Bool) → ℕ → List Literal → (ℕ → Bool) → Type 0
IsLeast s U g from a = (v : ℕ) → 0 < v → v ≤ count s g → (a v ≡ true) ↔ Closed s U g from (yes v)

-- Where fields own as phi says and h has the interface v, the least assignment of group g says so and meets the group's
-- constraints, and at each site the same holds of the called procedure with the interface that it asks for.
pub data PlainIn (s : System) (U : ConstraintName → Bool) (phi : List Bool) : ℕ → ℕ → List Bool → Type 0 where
  plain : {g h : ℕ} {v : List Bool} (a : ℕ → Bool)
      → IsLeast s U g (said (phi_numbers s) phi ++ said (pi_numbers s g h) v) a
      → phi_by s a ≡ phi
      → pi_by s g a h ≡ v
      → IsLocal s U g a
      → ((site : ℕ) → site < length (callees s g) → PlainIn s U phi (callee s g site).group (callee s g site).proc (sigma_by s g a site))
      → PlainIn s U phi g h v

-- with the owning fields and the interfaces that the root's least assignment gives, each group is plain
pub record IsPlainSat (s : System) (U : ConstraintName → Bool) : Type 0 where
  pub values : ℕ → Bool
  pub least : IsLeast s U (root s) [] values
  pub each : (g : ℕ) → g < root s → PlainIn s U (phi_by s values) g (first s g) (sigma_by s (root s) values g)
