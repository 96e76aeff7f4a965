use Rattle.std.proofs.Common.{◌≡◌, take}
use Rattle.cert_checker.specs.Tables.{clause_line, line_in}
use Rattle.cert_checker.proofs.marks.Marks.last_line.Given as goal

abbrev pub invariant-loop-lit : goal.invariant-loop-lit
invariant-loop-lit l = l.last ≡ clause_line (line_in l.self.fields l.self.lines.items l.self.after) (take l.lit-index l.lits)
