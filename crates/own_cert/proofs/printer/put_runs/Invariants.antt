use Rattle.std.proofs.Common.{◌≡◌, ◌++◌, map, length}
use Rattle.std.specs.List.{All}
use Rattle.own_cert.specs.declared.lines.Line.TheVariants as line
use Rattle.own_cert.specs.Text.{runs_of}
use Rattle.own_cert.specs.Values.{IsRow}
use Rattle.own_cert.proofs.ReadLemmas.{bytes_of}
use Rattle.own_cert.proofs.printer.put_runs.Given as goal

abbrev pub invariant-loop-first : goal.invariant-loop-first
invariant-loop-first l = record {
  text : l.out.items ++ bytes_of (map line.Places (runs_of l.rest)) ≡ l.fn.out.items ++ bytes_of (map line.Places (runs_of l.rows));
  is : All IsRow l.rest → All IsRow l.rows;
}

abbrev pub decreases-loop-first : goal.decreases-loop-first
decreases-loop-first l = length l.rest
