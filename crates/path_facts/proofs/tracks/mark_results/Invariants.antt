use Rattle.std.proofs.Common.{◌≡◌, ℕ, ◌<◌, Some, true, false, get_or}
use Rattle.flow_graph.specs.Paths.{no_edge}
use Rattle.path_facts.specs.Tracks.{result_of}
use Rattle.path_facts.proofs.tracks.mark_results.Given as goal

abbrev pub invariant-loop-edge : goal.invariant-loop-edge
invariant-loop-edge l = record {
  kept : (x : ℕ) → get_or l.initial.marks x false ≡ true → get_or l.marks x false ≡ true;
  marked : (i r : ℕ) → i < l.edge-index → result_of (get_or l.edges i no_edge).action ≡ Some r → get_or l.marks r false ≡ true;
}
