use Rattle.std.proofs.Common.{◌≡◌, ◌++◌, take, map}
use Rattle.verdict_meaning.specs.Certificates.{Spot, spots}
use Rattle.cert_checker.specs.Tables.{place_lines}
use Rattle.cert_checker.proofs.marks.push_place_lines.Given as goal

abbrev pub invariant-loop-k : goal.invariant-loop-k
invariant-loop-k g l =
    l.lines.items ≡ l.fn.lines.items ++ place_lines (λ (p : Spot). (g.G.Groups.system l.groups).width p.proc) l.first (take l.k (spots (g.G.Groups.system l.groups) l.group))
