use Rattle.std.proofs.Common.{ℕ, ◌<◌}
use Rattle.cert_checker.specs.Finding.{HasWrongSite}
use Rattle.cert_checker.proofs.sites.first_site_fault.Given as goal

abbrev pub invariant-loop-n : goal.invariant-loop-n
invariant-loop-n g l = (m : ℕ) → m < l.n → HasWrongSite (g.G.Groups.system l.groups) l.certificate.instances m → ⊥
