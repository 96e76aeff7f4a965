-- The groups of procedures, and whom their sites call, in tables.
use Rattle.std.specs.Prelude.{◌≡◌, ℕ, ◌+◌, ◌<◌, ◌^◌, true, false, List, [], length, drop, map, slice_index, slice_index_or}
use Rattle.std.specs.List.{Contains, position_or_len}
use Rattle.flow_graph.specs.FlowGraph.{FlowGraph}
use Rattle.flow_graph.specs.Fits.{is_in}
use Rattle.owner_vars.specs.Unknowns.{site_callees, field_count}
use Rattle.transfer_rules.specs.Programs.{Parts, group_at}
use Rattle.transfer_rules.specs.declared.scope.Scope.{Scope}
use Rattle.verdict_meaning.specs.declared.callee.Callee.{Callee}
use Rattle.verdict_meaning.specs.Programs.{callee_in}

-- for each procedure with a body the number of the first of the groups from this one on that holds it, or how many groups
-- there are where none does
pub record AreGroupNumbers (bodies : ℕ) (groups : List (List ℕ)) (from : ℕ) (numbers : List ℕ) : Type 0 where
  pub count : length numbers ≡ bodies
  pub each : (k : ℕ) → k < bodies → slice_index numbers k ≡ from + position_or_len (λ (ms : List ℕ). is_in ms k) (drop from groups)

-- the numbers at these places are this one, and the others are kept
pub record MarksGroup (old new : List ℕ) (members : List ℕ) (group : ℕ) : Type 0 where
  pub count : length new ≡ length old
  pub these : (k : ℕ) → is_in members k ≡ true → slice_index new k ≡ group
  pub others : (k : ℕ) → is_in members k ≡ false → slice_index new k ≡ slice_index old k

-- whom the sites of a group call, with their groups
abbrev pub called : FlowGraph → List (List ℕ) → ℕ → List Callee
called g groups e = map (callee_in groups) (site_callees g (group_at groups e))

-- a program with the names in a scope
pub record Scoped : Type 0 where
  pub program : Parts
  pub scope : Scope

-- how many groups and pointer fields there are, and whom the sites of each group call
pub record AreTables (p : Parts) (group_count pointers : ℕ) (lists : List (List Callee)) : Type 0 where
  pub groups : group_count ≡ length p.groups
  pub fields : pointers ≡ field_count p.graph
  pub all : length lists ≡ length p.groups
  pub each : (e : ℕ) → e < length p.groups → slice_index_or lists e [] ≡ called p.graph p.groups e
  pub small : (e : ℕ) → e < length p.groups → length (called p.graph p.groups e) < 2 ^ 32
