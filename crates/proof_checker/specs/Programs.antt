-- What the checker looks up in a program.
use Rattle.std.specs.Prelude.{◌≡◌, ℕ, ◌<◌, Bool, List, [], ◌∷◌, ◌++◌, length, map, slice_index, slice_index_or}
use Rattle.conflict_proof.specs.declared.names.ConstraintName.{ConstraintName}
use Rattle.flow_graph.specs.FlowGraph.{FlowGraph}
use Rattle.owner_vars.specs.Unknowns.{Unknown, field_count, site_callees}
use Rattle.transfer_rules.specs.Programs.{Parts}
use Rattle.transfer_rules.specs.Names.{in_scope}
use Rattle.verdict_meaning.specs.declared.callee.Callee.{Callee}
use Rattle.verdict_meaning.specs.Systems.{firsts}
use Rattle.verdict_meaning.specs.Solutions.{all_names}
use Rattle.verdict_meaning.specs.Programs.{group_of, callee_in}
use Rattle.proof_checker.specs.declared.counting.Counting.{Counting}
use Rattle.proof_checker.specs.declared.counting.Counting.TheVariants.{All, In}

-- the names that count
abbrev pub counted : Counting → ConstraintName → Bool
counted All = all_names
counted (In scope) = in_scope scope.now

-- the unknowns of a group, or of the root
abbrev pub unknowns_in : Parts → ℕ → List Unknown
unknowns_in p e = slice_index_or p.numbers e []

-- for each procedure with a body the number of its group
pub record AreGroupNumbers (g : FlowGraph) (groups : List (List ℕ)) (numbers : List ℕ) : Type 0 where
  pub count : length numbers ≡ g.bodies
  pub each : (k : ℕ) → k < g.bodies → slice_index numbers k ≡ group_of groups k

-- whom the sites of the group of these procedures call
abbrev pub calls_out : FlowGraph → List (List ℕ) → List ℕ → List Callee
calls_out g groups ms = map (callee_in groups) (site_callees g ms)

-- the same of each group, and last of the root
abbrev pub all_calls : FlowGraph → List (List ℕ) → List (List Callee)
all_calls g groups = map (calls_out g groups) groups ++ firsts 0 groups ∷ []

-- what is looked up besides: how many fields there are, and whom sites call
pub record AreTables (p : Parts) (fields : ℕ) (calls : List (List Callee)) : Type 0 where
  pub fields_are : fields ≡ field_count p.graph
  pub calls_are : calls ≡ all_calls p.graph p.groups
