-- Broken rules, and which of them stands first.
use Rattle.std.specs.Prelude.{ℕ, List, [], ◌∷◌, ◌++◌, Bool, true, false, Option, Some, None, nat_lt, if◌then◌else◌}
use Rattle.c_tree.specs.declared.position.Span.{Span}
use Rattle.c_types.specs.declared.rules.Breach.{Breach}

abbrev pub breach : Span → ℕ → Breach
breach at r = record { at = at.start; rule = r }

-- how breaches are put together: none, one, and these before those
pub record Gathering (M : Type 0) : Type 0 where
  pub none : M
  pub one : Breach → M
  pub also : M → M → M

abbrev pub breach_if : {M : Type 0} → Gathering M → Bool → Span → ℕ → M
breach_if g false at r = g.none
breach_if g true at r = g.one (breach at r)

-- the one that begins first, and the left one where both begin at one byte
unfoldable pub sooner : Option Breach → Option Breach → Option Breach
sooner None o = o
sooner (Some a) None = Some a
sooner (Some a) (Some b) = if nat_lt b.at a.at then Some b else Some a

abbrev pub first : List Breach → Option Breach
first [] = None
first (b ∷ bs) = sooner (Some b) (first bs)

-- all of them, in order
abbrev pub listed : Gathering (List Breach)
listed = record { none = []; one = λ b. b ∷ []; also = λ xs ys. xs ++ ys }

-- the first of them
abbrev pub soonest : Gathering (Option Breach)
soonest = record { none = None; one = λ b. Some b; also = sooner }
