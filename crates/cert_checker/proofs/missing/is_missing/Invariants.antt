use Rattle.std.proofs.Common.{◌≡◌, ℕ, ◌<◌, true, false, Some, slice_get, get_or, vec_len}
use Rattle.own_cert.specs.declared.certificate.Instance.{Instance}
use Rattle.verdict_meaning.specs.Systems.{root}
use Rattle.cert_checker.proofs.BrokenLemmas.{AreSeenGroups}
use Rattle.cert_checker.proofs.missing.is_missing.Given as goal

abbrev pub invariant-loop-instance : goal.invariant-loop-instance
invariant-loop-instance g l = record {
  count : vec_len l.seen ≡ root (g.G.Groups.system l.groups);
  seen : AreSeenGroups l.instances l.seen.items l.instance-index;
  each : (m : ℕ) (i : Instance) → m < l.instance-index → slice_get l.instances m ≡ Some i → i.group < root (g.G.Groups.system l.groups) → get_or l.seen.items i.group false ≡ true;
}

abbrev pub invariant-loop-has : goal.invariant-loop-has
invariant-loop-has g l = (k : ℕ) → k < l.has-index → get_or l.has-items k false ≡ true
