use Rattle.std.proofs.Common.{◌≡◌, vec_len}
use Rattle.verdict_meaning.specs.Systems.{root}
use Rattle.cert_checker.specs.Finding.{IsFirstBelow}
use Rattle.cert_checker.proofs.BrokenLemmas.{BrokenBefore, AreSeenGroups}
use Rattle.cert_checker.proofs.broken.first_broken.Given as goal

abbrev pub invariant-loop-n : goal.invariant-loop-n
invariant-loop-n g l = record {
  count : vec_len l.seen ≡ root (g.G.Groups.system l.groups);
  seen : AreSeenGroups l.certificate.instances l.seen.items l.n;
  first : IsFirstBelow l.bound (BrokenBefore (g.G.Groups.system l.groups) (g.G.Groups.scope l.groups) l.certificate l.n) l.found;
}
