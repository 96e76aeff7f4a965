-- What is kept of one procedure in the code, and how it belongs to its program.
use Rattle.std.specs.Prelude.{◌≡◌, ℕ, ◌<◌, ◌^◌, true, List, [], length, slice_index_or}
use Rattle.std.specs.List.{Contains}
use Rattle.flow_graph.specs.FlowGraph.{FlowGraph}
use Rattle.flow_graph.specs.Fits.{IsFlowGraph}
use Rattle.path_facts.specs.Tables.{HasSlot as HasFacts}
use Rattle.owner_vars.specs.Unknowns.{Unknown, Phi, Pi, Rho, Omega, unknowns, sites}
use Rattle.owner_vars.specs.declared.site.Site.{Site}
use Rattle.owner_vars.specs.Fields.{structs_of}
use Rattle.field_rules.specs.Sight.{HasSlot, HasPointer, HasOmega, IsField, pointers, fields_to}
use Rattle.transfer_rules.specs.Body.{Body, sight, setting, call_part}

-- each unknown that the rules name is there
pub record HasUnknowns (b : Body) (numbers : List Unknown) : Type 0 where
  pub is : numbers ≡ unknowns b.graph b.members
  pub phi : (f : ℕ) → IsField (sight b) f → Contains numbers (Phi f)
  pub rho : (p x : ℕ) → HasPointer (sight b) p x → Contains numbers (Rho b.proc p x)
  pub omega : (p x f : ℕ) → HasOmega (sight b) p x f → Contains numbers (Omega b.proc p x f)
  pub pi : (i : ℕ) → (setting b).has_pi i ≡ true → Contains numbers (Pi b.proc i)
  pub part : (p callee i : ℕ) → (setting b).has_part p callee i ≡ true → Contains numbers (call_part b p callee i)

-- the fields that point to each struct
pub record AreTargets (b : Body) (targets : List (List ℕ)) : Type 0 where
  pub count : length targets ≡ length b.graph.structs
  pub each : (s : ℕ) → s < length b.graph.structs → slice_index_or targets s [] ≡ fields_to (sight b) s

pub record IsBodyOf (b : Body) (numbers : List Unknown) (structs : FlowGraph) (calls : List Site) (slots : List ℕ) (targets : List (List ℕ)) : Type 0 where
  pub graph : IsFlowGraph b.graph
  pub body : b.proc < b.graph.bodies
  pub facts : (p x : ℕ) → HasSlot (sight b) p x → HasFacts b.facts b.proc p x
  pub few : (setting b).params < 2 ^ 31
  pub entry : (x : ℕ) → x < (setting b).params → (sight b).pointer x ≡ true → (setting b).has_pi ((setting b).param_part x) ≡ true
  pub unknowns : HasUnknowns b numbers
  pub fields : structs ≡ structs_of b.graph
  pub sites : calls ≡ sites b.graph b.members
  pub pointers : slots ≡ pointers (sight b)
  pub to_struct : AreTargets b targets
