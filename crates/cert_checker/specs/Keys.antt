-- Sets of keys.
use Rattle.std.specs.Prelude.{ℕ, List, map}
use Rattle.std.specs.Global.{Vec}
use Rattle.std.specs.BTreeSet.{BTreeSet}

abbrev pub keys_in : BTreeSet (Vec ℕ) → List (List ℕ)
keys_in s = map (λ (v : Vec ℕ). v.items) s.keys
