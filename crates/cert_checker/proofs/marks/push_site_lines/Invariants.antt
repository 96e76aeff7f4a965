use Rattle.std.proofs.Common.{◌≡◌, ◌++◌, take, replicate}
use Rattle.std.specs.Prelude.{sum_by}
use Rattle.verdict_meaning.specs.Systems.{callees, callee_parts}
use Rattle.cert_checker.proofs.marks.push_site_lines.Given as goal

abbrev pub invariant-loop-site : goal.invariant-loop-site
invariant-loop-site g l = l.lines.items ≡ l.fn.lines.items ++ replicate (sum_by (callee_parts (g.G.Groups.system l.groups)) (take l.site (callees (g.G.Groups.system l.groups) l.group))) l.line
