use Rattle.std.proofs.Common.{◌≡◌, ℕ, ◌+◌, ◌<◌, ◌≤◌, Some, length, get_or, slice_get, List, refl, sym, ap, ◌∙◌, subst, arith, rules}
use Rattle.std.proofs.lemmas.Option.{slice_get_read, slice_get-get_or}
use Rattle.own_cert.specs.declared.certificate.Instance.{Instance}
use Rattle.verdict_meaning.specs.declared.callee.Callee.{Callee}
use Rattle.verdict_meaning.specs.Systems.{System, callee, callees, nobody}
use Rattle.verdict_meaning.specs.Certificates.{IsSite}
use Rattle.cert_checker.proofs.SiteLemmas.{one_more_site, no_wrong_site, wrong_site}
use Rattle.cert_checker.proofs.sites.are_sites.Goals as goal

pub returns-then-not-is_site : goal.returns-then-not-is_site
returns-then-not-is_site g c =
    let s : System = g.G.Groups.system c.args.groups.now in
    let k : ℕ = c.loop-k.k in
    let sites : c.as_slice-sites.result.now ≡ c.args.instance.now.sites = search rules in
    let called : c.callees-callees.result.now ≡ callees s c.args.instance.now.group = search rules in
    let lt : k < length c.args.instance.now.sites = (let e = ap length sites in omega arith) in
    wrong_site s c.args.instances.now c.args.n c.args.instance.now k (get_or c.as_slice-sites.result.now k 0) (get_or c.callees-callees.result.now k nobody) c.requires.there
    (slice_get-get_or c.args.instance.now.sites k 0 lt ∙ ap (λ (ns : List ℕ). Some (get_or ns k 0)) (sym sites))
    (ap (λ (cs : List Callee). get_or cs k nobody) (sym called))
    (c.if-not-is_site.ensures s)

pub loop-k-preserved : goal.loop-k-preserved
loop-k-preserved g c =
    let s : System = g.G.Groups.system c.args.groups.now in
    let k : ℕ = c.loop-k.k in
    let sites : c.as_slice-sites.result.now ≡ c.args.instance.now.sites = search rules in
    let called : c.callees-callees.result.now ≡ callees s c.args.instance.now.group = search rules in
    let lt : k < length c.args.instance.now.sites = (let e = ap length sites in omega arith) in
    one_more_site s c.args.instances.now c.args.n c.args.instance.now k (get_or c.as_slice-sites.result.now k 0)
    (slice_get-get_or c.args.instance.now.sites k 0 lt ∙ ap (λ (ns : List ℕ). Some (get_or ns k 0)) (sym sites))
    c.loop-k.invariant
    (subst (λ (x : Callee). IsSite s c.args.instances.now c.args.n x (get_or c.as_slice-sites.result.now k 0)) (ap (λ (cs : List Callee). get_or cs k nobody) called) (c.if-not-is_site.ensures s))

pub returns : goal.returns
returns g c =
    let s : System = g.G.Groups.system c.args.groups.now in
    let sites : c.as_slice-sites.result.now ≡ c.args.instance.now.sites = search rules in
    no_wrong_site s c.args.instances.now c.args.n c.args.instance.now c.loop-k.k c.requires.there (let e = ap length sites in omega arith) c.loop-k.invariant
