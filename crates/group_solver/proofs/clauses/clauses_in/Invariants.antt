use Rattle.std.proofs.Common.{◌≡◌, take}
use Rattle.transfer_rules.specs.Names.{lits_of}
use Rattle.zo_solver.specs.Clauses.{EachClause}
use Rattle.zo_solver.specs.Trail.{IsClauseOver}
use Rattle.group_solver.proofs.clauses.clauses_in.Given as goal

abbrev pub invariant-loop-number : goal.invariant-loop-number
invariant-loop-number l = record { clauses : l.clauses.items ≡ lits_of (take l.number l.table); over : EachClause (IsClauseOver l.vars) l.clauses.items }
