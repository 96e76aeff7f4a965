use Rattle.std.proofs.Common.{◌≡◌, ℕ, ◌+◌, ◌<◌, ◌≤◌, Bool, true, false, List, Option, Some, None, length, get_or, slice_get, refl, sym, ap, ◌∙◌, subst, arith, rules, below_more}
use Rattle.std.proofs.lemmas.Option.{slice_get_read}
use Rattle.std.specs.List.{Contains}
use Rattle.own_cert.specs.declared.certificate.Instance.{Instance}
use Rattle.conflict_proof.specs.declared.faults.Reason.TheVariants.{Range, Twice, Site}
use Rattle.verdict_meaning.specs.Systems.{System, root, members, callees}
use Rattle.verdict_meaning.specs.CertificateFaults.{HasFault, instance_line}
use Rattle.cert_checker.specs.Finding.{HasWrongSite}
use Rattle.cert_checker.proofs.FirstLemmas.{first_here, none_beyond, none_at_all}
use Rattle.cert_checker.proofs.ShapeLemmas.{group_there, count_right}
use Rattle.cert_checker.proofs.SiteLemmas.{site_to, site_from}
use Rattle.cert_checker.proofs.sites.first_site_fault.Goals as goal

pub returns-then-not-is_below : goal.returns-then-not-is_below
returns-then-not-is_below g c =
    let s : System = g.G.Groups.system c.args.groups.now in
    let is : c.as_slice-instances.result.now ≡ c.args.certificate.now.instances = search rules in
    let lt : c.loop-n.n < length c.args.certificate.now.instances = (let e = ap length is in omega arith) in
    let start : get_or c.args.starts.now c.loop-n.n 0 ≡ instance_line c.args.certificate.now.instances c.loop-n.n = c.requires.starts.each c.loop-n.n (omega (arith, lt)) in
    let line : c.in_ok-line.line ≡ instance_line c.args.certificate.now.instances c.loop-n.n + 2 = c.in_ok-line.ensures ∙ ap (λ (k : ℕ). k + 2) start in
    none_beyond c.args.certificate.now.instances 2 (HasWrongSite s c.args.certificate.now.instances) (HasFault s (g.G.Groups.scope c.args.groups.now) c.args.certificate.now Site) c.args.bound
    (site_to s (g.G.Groups.scope c.args.groups.now) c.args.certificate.now) (site_from s (g.G.Groups.scope c.args.groups.now) c.args.certificate.now)
    c.loop-n.n c.in_ok-line.line line c.if-not-is_below.ensures c.loop-n.invariant

pub are_sites-requires-clause-there : goal.are_sites-requires-clause-there
are_sites-requires-clause-there g c =
    let s : System = g.G.Groups.system c.args.groups.now in
    let is : c.as_slice-instances.result.now ≡ c.args.certificate.now.instances = search rules in
    let lt : c.loop-n.n < length c.args.certificate.now.instances = (let e = ap length is in omega arith) in
    let start : get_or c.args.starts.now c.loop-n.n 0 ≡ instance_line c.args.certificate.now.instances c.loop-n.n = c.requires.starts.each c.loop-n.n (omega (arith, lt)) in
    let line : c.in_ok-line.line ≡ instance_line c.args.certificate.now.instances c.loop-n.n + 2 = c.in_ok-line.ensures ∙ ap (λ (k : ℕ). k + 2) start in
    let at : slice_get c.args.certificate.now.instances c.loop-n.n ≡ Some c.index-instances-n.result =
    slice_get_read c.args.certificate.now.instances (length c.args.certificate.now.instances) c.loop-n.n c.index-instances-n.result refl lt (rw is at c.index-instances-n.is) in
    rw is at

pub are_sites-requires-clause-group : goal.are_sites-requires-clause-group
are_sites-requires-clause-group g c =
    let s : System = g.G.Groups.system c.args.groups.now in
    let is : c.as_slice-instances.result.now ≡ c.args.certificate.now.instances = search rules in
    let lt : c.loop-n.n < length c.args.certificate.now.instances = (let e = ap length is in omega arith) in
    let start : get_or c.args.starts.now c.loop-n.n 0 ≡ instance_line c.args.certificate.now.instances c.loop-n.n = c.requires.starts.each c.loop-n.n (omega (arith, lt)) in
    let line : c.in_ok-line.line ≡ instance_line c.args.certificate.now.instances c.loop-n.n + 2 = c.in_ok-line.ensures ∙ ap (λ (k : ℕ). k + 2) start in
    let at : slice_get c.args.certificate.now.instances c.loop-n.n ≡ Some c.index-instances-n.result =
    slice_get_read c.args.certificate.now.instances (length c.args.certificate.now.instances) c.loop-n.n c.index-instances-n.result refl lt (rw is at c.index-instances-n.is) in
    group_there s (g.G.Groups.scope c.args.groups.now) c.args.certificate.now c.args.bound c.requires.shapes c.loop-n.n c.index-instances-n.result at c.in_ok-line.line (omega (arith, line)) c.if-not-is_below.ensures

pub are_sites-requires-clause-count : goal.are_sites-requires-clause-count
are_sites-requires-clause-count g c =
    let s : System = g.G.Groups.system c.args.groups.now in
    let is : c.as_slice-instances.result.now ≡ c.args.certificate.now.instances = search rules in
    let lt : c.loop-n.n < length c.args.certificate.now.instances = (let e = ap length is in omega arith) in
    let start : get_or c.args.starts.now c.loop-n.n 0 ≡ instance_line c.args.certificate.now.instances c.loop-n.n = c.requires.starts.each c.loop-n.n (omega (arith, lt)) in
    let line : c.in_ok-line.line ≡ instance_line c.args.certificate.now.instances c.loop-n.n + 2 = c.in_ok-line.ensures ∙ ap (λ (k : ℕ). k + 2) start in
    let at : slice_get c.args.certificate.now.instances c.loop-n.n ≡ Some c.index-instances-n.result =
    slice_get_read c.args.certificate.now.instances (length c.args.certificate.now.instances) c.loop-n.n c.index-instances-n.result refl lt (rw is at c.index-instances-n.is) in
    count_right s (g.G.Groups.scope c.args.groups.now) c.args.certificate.now c.args.bound c.requires.shapes c.loop-n.n c.index-instances-n.result at c.in_ok-line.line (omega (arith, line)) c.if-not-is_below.ensures

pub returns-then-not-are_sites : goal.returns-then-not-are_sites
returns-then-not-are_sites g c =
    let s : System = g.G.Groups.system c.args.groups.now in
    let is : c.as_slice-instances.result.now ≡ c.args.certificate.now.instances = search rules in
    let lt : c.loop-n.n < length c.args.certificate.now.instances = (let e = ap length is in omega arith) in
    let start : get_or c.args.starts.now c.loop-n.n 0 ≡ instance_line c.args.certificate.now.instances c.loop-n.n = c.requires.starts.each c.loop-n.n (omega (arith, lt)) in
    let line : c.in_ok-line.line ≡ instance_line c.args.certificate.now.instances c.loop-n.n + 2 = c.in_ok-line.ensures ∙ ap (λ (k : ℕ). k + 2) start in
    let wrong : HasWrongSite s c.args.certificate.now.instances c.loop-n.n = subst (λ (xs : List Instance). HasWrongSite s xs c.loop-n.n) is c.if-not-are_sites.ensures in
    first_here c.args.certificate.now.instances 2 (HasWrongSite s c.args.certificate.now.instances) (HasFault s (g.G.Groups.scope c.args.groups.now) c.args.certificate.now Site) c.args.bound
    (site_to s (g.G.Groups.scope c.args.groups.now) c.args.certificate.now) (site_from s (g.G.Groups.scope c.args.groups.now) c.args.certificate.now)
    c.loop-n.n c.in_ok-line.line line c.if-not-is_below.ensures wrong c.loop-n.invariant

pub loop-n-preserved : goal.loop-n-preserved
loop-n-preserved g c =
    let s : System = g.G.Groups.system c.args.groups.now in
    let is : c.as_slice-instances.result.now ≡ c.args.certificate.now.instances = search rules in
    below_more _ _ c.loop-n.invariant (λ h. c.if-not-are_sites.ensures (subst (λ (xs : List Instance). HasWrongSite s xs c.loop-n.n) (sym is) h))

pub returns : goal.returns
returns g c =
    let s : System = g.G.Groups.system c.args.groups.now in
    let is : c.as_slice-instances.result.now ≡ c.args.certificate.now.instances = search rules in
    none_at_all c.args.certificate.now.instances 2 (HasWrongSite s c.args.certificate.now.instances) (HasFault s (g.G.Groups.scope c.args.groups.now) c.args.certificate.now Site) c.args.bound
    (site_to s (g.G.Groups.scope c.args.groups.now) c.args.certificate.now) (site_from s (g.G.Groups.scope c.args.groups.now) c.args.certificate.now)
    c.loop-n.n (let e = ap length is in omega arith) c.loop-n.invariant
