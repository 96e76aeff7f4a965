use Rattle.std.proofs.Common.{◌≡◌, ◌+◌, take, drop}
use Rattle.std.specs.List.{All}
use Rattle.own_cert.specs.Runs.{more_of_run}
use Rattle.own_cert.specs.Values.{IsRow}
use Rattle.own_cert.proofs.runs.more_of_run.Given as goal

abbrev pub invariant-loop-next : goal.invariant-loop-next
invariant-loop-next l = record {
  same : l.n ≡ l.next-index;
  counted : more_of_run l.row l.rows ≡ l.n + more_of_run l.last (drop l.n l.rows);
  is : All IsRow (take l.n l.rows);
}
