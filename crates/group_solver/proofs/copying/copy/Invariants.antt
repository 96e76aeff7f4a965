use Rattle.std.proofs.Common.{◌≡◌, length}
use Rattle.group_solver.specs.Copies.{IsCopying}
use Rattle.group_solver.specs.Rows.{rows_in}
use Rattle.group_solver.proofs.copying.copy.Given as goal

abbrev pub invariant-loop-at : goal.invariant-loop-at
invariant-loop-at l = record {
  copying : IsCopying (rows_in l.table) l.group l.vars l.solver l.wanted l.fn.ledger l.ledger l.places.items;
  place : l.at ≡ length l.places.items;
}
