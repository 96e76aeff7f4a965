use Rattle.std.proofs.Common.{◌++◌, take}
use Rattle.verdict_meaning.specs.Certificates.{bit_at, spots}
use Rattle.cert_checker.specs.Tables.{line_in, IsFalseAmong}
use Rattle.cert_checker.specs.Finding.{IsFirstBelow}
use Rattle.cert_checker.proofs.broken.false_in.Given as goal

abbrev pub invariant-loop-k : goal.invariant-loop-k
invariant-loop-k g l =
    IsFirstBelow l.bound
    (IsFalseAmong (g.G.Groups.system l.groups) (g.G.Groups.scope l.groups) l.group (g.G.Groups.names l.groups l.group) (take l.k (spots (g.G.Groups.system l.groups) l.group))
    (bit_at (l.phi ++ l.marks.bits.items)) (line_in l.marks.fields l.marks.lines.items l.marks.after))
    l.found
