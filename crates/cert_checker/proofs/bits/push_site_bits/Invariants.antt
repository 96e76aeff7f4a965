use Rattle.std.proofs.Common.{◌≡◌, ◌++◌, take}
use Rattle.verdict_meaning.specs.Systems.{callees}
use Rattle.verdict_meaning.specs.Certificates.{site_bits}
use Rattle.cert_checker.proofs.bits.push_site_bits.Given as goal

abbrev pub invariant-loop-number : goal.invariant-loop-number
invariant-loop-number g l =
    l.bits.items ≡ l.fn.bits.items ++ site_bits (g.G.Groups.system l.groups) l.instances (callees (g.G.Groups.system l.groups) l.instance.group) (take l.number-index l.instance.sites)
