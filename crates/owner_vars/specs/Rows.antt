-- Unknowns that stand one after another: the interface of a member, that of a site, and what there is at one place.
use Rattle.std.specs.Prelude.{ℕ, ◌+◌, Bool, false, ◌&&◌, List, nat_eq}
use Rattle.std.specs.List.{position_or_len, count_by}
use Rattle.zo_core.specs.declared.number_range.NumberRange.{NumberRange}
use Rattle.owner_vars.specs.Unknowns.{Unknown, Pi, Sigma, Rho, Omega}

-- the unknown is of the interface of this procedure
abbrev pub is_pi_of : ℕ → Unknown → Bool
is_pi_of k (Pi l i) = nat_eq l k
is_pi_of k _ = false

-- the unknown is of the call at this site
abbrev pub is_sigma_of : ℕ → Unknown → Bool
is_sigma_of s (Sigma t i) = nat_eq t s
is_sigma_of s _ = false

-- the unknown is of this place of this procedure
abbrev pub is_at : ℕ → ℕ → Unknown → Bool
is_at k p (Rho l q x) = nat_eq l k && nat_eq q p
is_at k p (Omega l q x f) = nat_eq l k && nat_eq q p
is_at k p _ = false

-- the number of the first unknown that passes, and how many pass; where none does, the number after the last
abbrev pub range_where : (Unknown → Bool) → List Unknown → NumberRange
range_where test us = record { first = 1 + position_or_len test us; count = count_by test us }
