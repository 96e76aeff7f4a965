use Rattle.std.proofs.Common.{◌≡◌, ◌++◌, take, replicate}
use Rattle.std.specs.Prelude.{sum_by}
use Rattle.cert_checker.proofs.marks.push_face_lines.Given as goal

abbrev pub invariant-loop-proc : goal.invariant-loop-proc
invariant-loop-proc g l = l.lines.items ≡ l.fn.lines.items ++ replicate (sum_by (g.G.Groups.system l.groups).parts (take l.proc-index l.members)) l.line
