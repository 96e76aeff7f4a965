use Rattle.std.proofs.Common.{◌≡◌, ℕ, Option, None, subst, sym, ap, ◌∙◌, arith, rules}
use Rattle.conflict_proof.specs.declared.faults.BadLine.{BadLine}
use Rattle.conflict_proof.specs.declared.faults.Reason.TheVariants.{Range, Site}
use Rattle.verdict_meaning.specs.Systems.{System}
use Rattle.cert_checker.specs.Checking.{IsFirstAmong}
use Rattle.cert_checker.proofs.FirstLemmas.{next_broken, next_missing, clean_at, verdict}
use Rattle.cert_checker.proofs.faults.first_fault.Goals as goal

pub returns : goal.returns
returns g c =
    let s : System = g.G.Groups.system c.args.groups.now in
    let U = g.G.Groups.scope c.args.groups.now in
    let broken : IsFirstAmong 4 s U c.args.certificate.now c.nearer-first.result =
    next_broken s U c.args.certificate.now c.in_ok-broken.broken c.bound_of.result c.in_ok-first.first c.nearer-first.result c.bound_of.ensures c.nearer-first.ensures c.in_ok-first.ensures c.in_ok-broken.ensures in
    verdict s U c.args.certificate.now c.faultless_is_good.ensures c.nearer.result
    (next_missing s U c.args.certificate.now c.in_ok-missing.missing c.bound_of-2.result c.nearer-first.result c.nearer.result c.bound_of-2.ensures c.nearer.ensures broken c.in_ok-missing.ensures)
