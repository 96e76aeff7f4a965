use Rattle.std.proofs.Common.{◌≡◌}
use Rattle.cert_checker.specs.Tables.{run_line, line_in}
use Rattle.cert_checker.proofs.runs.last_line.Given as goal

abbrev pub invariant-loop-k : goal.invariant-loop-k
invariant-loop-k l = l.last ≡ run_line (line_in l.marks.fields l.marks.lines.items l.marks.after) l.table l.from l.k
