-- Which slots of a procedure are tracked in rows of bits, and by which numbers.
use Rattle.std.specs.Prelude.{◌≡◌, ℕ, ◌<◌, Bool, true, false, Option, Some, None, is_some, List, length, slice_get, slice_index_or}
use Rattle.std.specs.List.{count_by}
use Rattle.c_types.specs.declared.kinds.SlotType.{SlotType}
use Rattle.c_types.specs.Types.{is_pointer}
use Rattle.flow_graph.specs.declared.action.Action.{Action}
use Rattle.flow_graph.specs.declared.action.Action.TheVariants as act
use Rattle.flow_graph.specs.FlowGraph.{FlowGraph, flow_of, edges_from}
use Rattle.flow_graph.specs.Paths.{edge_at}

-- the number of a slot among those that are tracked
abbrev pub track_of : List (Option ℕ) → ℕ → Option ℕ
track_of tracks x = slice_index_or tracks x None

abbrev pub track_count : List (Option ℕ) → ℕ
track_count tracks = count_by is_some tracks

pub record IsTracked (tracks : List (Option ℕ)) (x : ℕ) : Type 0 where
  pub track : ℕ
  pub is : track_of tracks x ≡ Some track
  pub within : x < length tracks

-- no two slots have one number, and all are below how many there are
pub record AreTracks (tracks : List (Option ℕ)) : Type 0 where
  pub within : (x n : ℕ) → track_of tracks x ≡ Some n → n < track_count tracks
  pub apart : (x y n : ℕ) → track_of tracks x ≡ Some n → track_of tracks y ≡ Some n → x ≡ y

-- the slot that an action gives the result of a call
abbrev pub result_of : Action → Option ℕ
result_of (act.Call r callee us) = r
result_of _ = None

-- P holds of each slot of the procedure k that may ever not be Empty, or be Fresh: of pointers, parameters and results of calls
pub record HoldsOfAll (g : FlowGraph) (k : ℕ) (P : ℕ → Type 0) : Type 0 where
  pub params : (x : ℕ) → x < length (flow_of g k).params → P x
  pub pointers : (x : ℕ) (t : SlotType) → slice_get (flow_of g k).slots x ≡ Some t → is_pointer t ≡ true → P x
  pub results : (p i r : ℕ) → i < length (edges_from g k p) → result_of (edge_at g k p i).action ≡ Some r → P r

-- the marks of the slots to be tracked
pub record AreMarks (g : FlowGraph) (k : ℕ) (marks : List Bool) : Type 0 where
  pub size : length marks ≡ length (flow_of g k).slots
  pub all : HoldsOfAll g k (λ x. slice_index_or marks x false ≡ true)

-- the marked slots have numbers
pub record AreTracksOf (marks : List Bool) (tracks : List (Option ℕ)) : Type 0 where
  pub size : length tracks ≡ length marks
  pub numbers : AreTracks tracks
  pub all : (x : ℕ) → slice_index_or marks x false ≡ true → IsTracked tracks x

-- the tracks of the slots of the procedure k
pub record TracksFit (g : FlowGraph) (k : ℕ) (tracks : List (Option ℕ)) : Type 0 where
  pub size : length tracks ≡ length (flow_of g k).slots
  pub numbers : AreTracks tracks
  pub all : HoldsOfAll g k (IsTracked tracks)
