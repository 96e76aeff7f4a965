-- Whether a number is among others.
use Rattle.std.specs.Prelude.{ℕ, Bool, List, nat_eq}
use Rattle.std.specs.List.{list_any}

abbrev pub has : List ℕ → ℕ → Bool
has us q = list_any (nat_eq q) us
