use Rattle.std.proofs.Common.{◌≡◌, ℕ, ◌<◌, ◌≤◌, Bool, true, false, List, length, get_or, vec_len, sym, ap, ◌∙◌, subst, arith, rules}
use Rattle.verdict_meaning.specs.Systems.{System, root}
use Rattle.cert_checker.proofs.BrokenLemmas.{none_missing}
use Rattle.cert_checker.proofs.missing.is_missing.Goals as goal

pub returns : goal.returns
returns g c =
    let s : System = g.G.Groups.system c.args.groups.now in
    let same : c.deref-has-items.result.now ≡ c.loop-instance.seen.items = c.deref-has-items.ensures.value in
    let long : length c.deref-has-items.result.now ≡ root s = c.deref-has-items.ensures.len ∙ c.loop-instance.invariant.count in
    none_missing s c.args.instances.now c.loop-instance.seen.items c.loop-instance.instance-index c.loop-instance.invariant.seen
    (λ k lt. subst (λ (bs : List Bool). get_or bs k false ≡ true) same (c.loop-has.invariant k (omega (arith, long))))
