use Rattle.std.proofs.Common.{◌≡◌, ◌≤◌, length}
use Rattle.group_solver.specs.Marks.{IsMarked, IsClosedFrom}
use Rattle.group_solver.proofs.marking.stood_on.Given as goal

abbrev pub invariant-loop-number : goal.invariant-loop-number
invariant-loop-number l = record {
  size : length l.marks.items ≡ l.last;
  itself : IsMarked l.marks.items l.last;
  closed : IsClosedFrom l.number l.solver.origins l.marks.items;
  within : l.number ≤ l.last;
}

abbrev pub decreases-loop-number : goal.decreases-loop-number
decreases-loop-number l = l.number
