use Rattle.std.proofs.Common.{refl}
use Rattle.verdict_meaning.specs.Systems.{System}
use Rattle.cert_checker.specs.Checking.{IsFirstAmong}
use Rattle.cert_checker.proofs.FirstLemmas.{next_range, next_twice, next_site}
use Rattle.cert_checker.proofs.faults.first_of_shape.Goals as goal

pub returns : goal.returns
returns g c =
    let s : System = g.G.Groups.system c.args.groups.now in
    let range : IsFirstAmong 1 s (g.G.Groups.scope c.args.groups.now) c.args.certificate.now c.nearer-first.result =
    next_range s (g.G.Groups.scope c.args.groups.now) c.args.certificate.now c.in_ok-shape.shape _ c.nearer-first.result refl c.nearer-first.ensures c.in_ok-shape.ensures in
    let twice : IsFirstAmong 2 s (g.G.Groups.scope c.args.groups.now) c.args.certificate.now c.nearer-first-2.result =
    next_twice s (g.G.Groups.scope c.args.groups.now) c.args.certificate.now c.in_ok-twice.twice c.bound_of.result c.nearer-first.result c.nearer-first-2.result c.bound_of.ensures c.nearer-first-2.ensures range c.in_ok-twice.ensures in
    next_site s (g.G.Groups.scope c.args.groups.now) c.args.certificate.now c.in_ok-site.site c.bound_of-2.result c.nearer-first-2.result c.nearer.result c.bound_of-2.ensures c.nearer.ensures twice c.in_ok-site.ensures
