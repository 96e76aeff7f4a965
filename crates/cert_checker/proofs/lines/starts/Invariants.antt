use Rattle.std.proofs.Common.{◌≡◌, ℕ, ◌<◌, get_or, vec_len}
use Rattle.verdict_meaning.specs.CertificateFaults.{instance_line}
use Rattle.cert_checker.proofs.lines.starts.Given as goal

abbrev pub invariant-loop-instance : goal.invariant-loop-instance
invariant-loop-instance l = record {
  count : vec_len l.starts ≡ l.instance-index;
  line : l.line ≡ instance_line l.instances l.instance-index;
  each : (n : ℕ) → n < l.instance-index → get_or l.starts.items n 0 ≡ instance_line l.instances n;
}
