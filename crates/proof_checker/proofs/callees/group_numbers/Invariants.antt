use Rattle.std.proofs.Common.{◌≡◌, length}
use Rattle.proof_checker.proofs.GroupLemmas.{AreFrom}
use Rattle.proof_checker.proofs.callees.group_numbers.Given as goal

abbrev pub invariant-loop-group : goal.invariant-loop-group
invariant-loop-group l = record {
  count : length l.numbers.items ≡ l.program.graph.bodies;
  numbers : AreFrom l.program.groups l.program.graph.bodies l.group l.numbers.items;
}
