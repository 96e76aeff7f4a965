-- Values as bits.
use Rattle.std.specs.Prelude.{◌≡◌, ℕ, ◌<◌, ◌≤◌, Bool, List, length}
use Rattle.verdict_meaning.specs.Certificates.{bit_at}

-- the bits are the values of the unknowns from 1 to this number
pub record AreValues (t : ℕ → Bool) (vars : ℕ) (bits : List Bool) : Type 0 where
  pub size : length bits ≡ vars
  pub each : (v : ℕ) → 0 < v → v ≤ vars → bit_at bits v ≡ t v
