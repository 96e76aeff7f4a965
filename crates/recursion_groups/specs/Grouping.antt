-- The call groups of a program in their order: a called group stands before its caller's, and where several could
-- stand next, the one that holds the smallest procedure number does.
use Rattle.std.specs.Prelude.{ℕ, ◌<◌, ◌≤◌, ◌⊎◌, ◌↔◌, List, [], ◌∷◌, ◌++◌, length}
use Rattle.std.specs.List.{All, Contains}
use Rattle.std.specs.List.Sorted.{IsStrictlyIncreasing}
use Rattle.flow_graph.specs.FlowGraph.{FlowGraph}
use Rattle.recursion_groups.specs.Calls.{Calls, AreMutual}

-- these are, ascending, all the procedures with bodies that call one another, directly or not
pub record IsGroup (g : FlowGraph) (ps : List ℕ) : Type 0 where
  pub some : 0 < length ps
  pub ascend : IsStrictlyIncreasing ps
  pub bodies : All (λ p. p < g.bodies) ps
  pub class : (p q : ℕ) → Contains ps p → Contains ps q ↔ AreMutual g p q

-- all that the group of p calls is in it or done, so that it could stand next
abbrev pub IsReady : FlowGraph → List ℕ → ℕ → Type 0
IsReady g done p = (q r : ℕ) → AreMutual g p q → Calls g q r → AreMutual g p r ⊎ Contains done r

-- the group that stands after those whose procedures are done
pub record IsNext (g : FlowGraph) (done ps : List ℕ) : Type 0 where
  pub group : IsGroup g ps
  pub apart : (p : ℕ) → Contains ps p → Contains done p → ⊥
  -- all that it calls is in it or done
  pub ready : (p q : ℕ) → Contains ps p → Calls g p q → Contains ps q ⊎ Contains done q
  -- no procedure of another group that could stand next is below all of it
  pub least : (p : ℕ) → p < g.bodies → (Contains done p → ⊥) → IsReady g done p → (q : ℕ) × Contains ps q × (q ≤ p)

-- these groups in this order, after those whose procedures are done, and then all are
abbrev pub IsOrdered : FlowGraph → List ℕ → List (List ℕ) → Type 0
IsOrdered g done [] = (p : ℕ) → p < g.bodies → Contains done p
IsOrdered g done (ps ∷ pss) = IsNext g done ps × IsOrdered g (done ++ ps) pss

abbrev pub IsGrouping : FlowGraph → List (List ℕ) → Type 0
IsGrouping g pss = IsOrdered g [] pss
