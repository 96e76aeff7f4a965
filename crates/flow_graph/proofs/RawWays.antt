-- What the edges of a body keep of places before these have numbers: each place but the exit has one edge, or the two
-- sides of one test.
use Rattle.std.specs.Prelude.{◌≡◌, ◌⊎◌, ℕ, ◌<◌, Bool, true, false, ◌&&◌, ⊤, List, [], ◌∷◌, Option, Some, None, nat_eq, if◌then◌else◌}
use Rattle.std.specs.List.{All}
use Rattle.c_tree.specs.declared.position.Place.{Place}
use Rattle.c_tree.specs.declared.position.Place.TheVariants as place
use Rattle.flow_graph.specs.declared.raw.RawAction.{RawAction}
use Rattle.flow_graph.specs.declared.raw.RawAction.TheVariants as act
use Rattle.flow_graph.specs.declared.raw.RawEdge.{RawEdge}

abbrev pub same_place : Place → Place → Bool
same_place place.In place.In = true
same_place place.End place.End = true
same_place place.Out place.Out = true
same_place (place.At n j) (place.At m i) = nat_eq n m && nat_eq j i
same_place _ _ = false

-- the edges from a place, in order
abbrev pub raw_at : List RawEdge → Place → List RawEdge
raw_at [] p = []
raw_at (e ∷ es) p = if same_place e.from p then e ∷ raw_at es p else raw_at es p

abbrev pub raw_is_test : RawAction → Bool
raw_is_test (act.IsNull x) = true
raw_is_test (act.NotNull x) = true
raw_is_test (act.FieldNull y f) = true
raw_is_test (act.FieldSet y f) = true
raw_is_test (act.NonZero x) = true
raw_is_test (act.Zero x) = true
raw_is_test (act.Equal x y) = true
raw_is_test (act.Differ x y) = true
raw_is_test _ = false

-- the second side of the test whose first side an action is
abbrev pub raw_other_side : RawAction → Option RawAction
raw_other_side (act.IsNull x) = Some (act.NotNull x)
raw_other_side (act.FieldNull y f) = Some (act.FieldSet y f)
raw_other_side (act.NonZero x) = Some (act.Zero x)
raw_other_side (act.Equal x y) = Some (act.Differ x y)
raw_other_side _ = None

-- one edge that is no test, or the two sides of one test
abbrev pub AreRawWays : List RawEdge → Type 0
AreRawWays (e ∷ []) = raw_is_test e.action ≡ false
AreRawWays (e ∷ d ∷ []) = raw_other_side e.action ≡ Some d.action
AreRawWays _ = ⊥

-- a sub-step of one of the first nodes
abbrev pub IsNodePlace : ℕ → Place → Type 0
IsNodePlace count (place.At n j) = (n < count) × (j < 4)
IsNodePlace count _ = ⊥

-- where an edge may begin in a body of so many nodes
abbrev pub MayBegin : Bool → ℕ → Place → Type 0
MayBegin main count place.In = ⊤
MayBegin main count (place.At n j) = IsNodePlace count (place.At n j)
MayBegin main count place.End = main ≡ true
MayBegin main count place.Out = ⊥

-- where it may lead
abbrev pub MayLead : Bool → ℕ → List RawEdge → Place → Type 0
MayLead main count es place.In = ⊥
MayLead main count es (place.At n j) = IsNodePlace count (place.At n j) × AreRawWays (raw_at es (place.At n j))
MayLead main count es place.End = main ≡ true
MayLead main count es place.Out = ⊤

pub record IsControlled (main : Bool) (count : ℕ) (es : List RawEdge) : Type 0 where
  pub entry : AreRawWays (raw_at es place.In)
  -- `main` alone has an end
  pub end : main ≡ true → AreRawWays (raw_at es place.End)
  pub nodes : (n j : ℕ) → (raw_at es (place.At n j) ≡ []) ⊎ AreRawWays (raw_at es (place.At n j))
  pub begins : All (λ e. MayBegin main count e.from) es
  pub leads : All (λ e. MayLead main count es e.to) es
