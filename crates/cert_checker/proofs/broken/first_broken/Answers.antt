use Rattle.std.proofs.Common.{◌≡◌, ℕ, ◌+◌, ◌<◌, ◌≤◌, Bool, true, false, List, Option, Some, None, length, get_or, slice_get, vec_len, refl, sym, ap, ◌∙◌, subst, arith, rules}
use Rattle.std.proofs.lemmas.Option.{slice_get_read}
use Rattle.own_cert.specs.declared.certificate.Instance.{Instance}
use Rattle.verdict_meaning.specs.Systems.{System, root}
use Rattle.verdict_meaning.specs.CertificateFaults.{instance_line}
use Rattle.cert_checker.specs.Finding.{IsFirstBelow, IsLeftOut}
use Rattle.cert_checker.proofs.BrokenLemmas.{BrokenBefore, left_out, taken, later_seen, one_more_seen, all_broken, none_seen_yet, none_before}
use Rattle.cert_checker.proofs.broken.first_broken.Goals as goal

pub loop-n-preserved-then-is_left_out : goal.loop-n-preserved-then-is_left_out
loop-n-preserved-then-is_left_out g c =
    let s : System = g.G.Groups.system c.args.groups.now in
    let is : c.as_slice-instances.result.now ≡ c.args.certificate.now.instances = search rules in
    let lt : c.loop-n.n < length c.args.certificate.now.instances = (let e = ap length is in omega arith) in
    let at : slice_get c.args.certificate.now.instances c.loop-n.n ≡ Some c.index-instances-n.result =
    slice_get_read c.args.certificate.now.instances (length c.args.certificate.now.instances) c.loop-n.n c.index-instances-n.result refl lt (rw is at c.index-instances-n.is) in
    let start : get_or c.args.starts.now c.loop-n.n 0 ≡ instance_line c.args.certificate.now.instances c.loop-n.n = c.requires.starts.each c.loop-n.n (omega (arith, lt)) in
    let same : c.deref.result.now ≡ c.loop-n.seen.items = c.deref.ensures.value in
    let long : length c.loop-n.seen.items ≡ root s = sym (ap length same) ∙ c.deref.ensures.len ∙ c.loop-n.invariant.count in
    let out : IsLeftOut c.loop-n.seen.items c.index-instances-n.result.group c.is_below.result =
    subst (λ (bs : List Bool). IsLeftOut bs c.index-instances-n.result.group c.is_below.result) same c.if-is_left_out.ensures in
    record {
      count = c.loop-n.invariant.count;
      seen = later_seen c.args.certificate.now.instances c.loop-n.seen.items c.loop-n.n c.loop-n.invariant.seen;
      first = left_out s (g.G.Groups.scope c.args.groups.now) c.args.certificate.now c.args.bound c.loop-n.n c.index-instances-n.result at c.requires.shapes c.loop-n.seen.items
          (get_or c.args.starts.now c.loop-n.n 0) c.is_below.result c.loop-n.found long start c.is_below.ensures c.loop-n.invariant.seen out c.loop-n.invariant.first;
    }

pub broken_in-requires-clause-there : goal.broken_in-requires-clause-there
broken_in-requires-clause-there g c =
    let is : c.as_slice-instances.result.now ≡ c.args.certificate.now.instances = search rules in
    let lt : c.loop-n.n < length c.args.certificate.now.instances = (let e = ap length is in omega arith) in
    slice_get_read c.args.certificate.now.instances (length c.args.certificate.now.instances) c.loop-n.n c.index-instances-n.result refl lt (rw is at c.index-instances-n.is)

pub loop-n-preserved : goal.loop-n-preserved
loop-n-preserved g c =
    let s : System = g.G.Groups.system c.args.groups.now in
    let is : c.as_slice-instances.result.now ≡ c.args.certificate.now.instances = search rules in
    let lt : c.loop-n.n < length c.args.certificate.now.instances = (let e = ap length is in omega arith) in
    let at : slice_get c.args.certificate.now.instances c.loop-n.n ≡ Some c.index-instances-n.result =
    slice_get_read c.args.certificate.now.instances (length c.args.certificate.now.instances) c.loop-n.n c.index-instances-n.result refl lt (rw is at c.index-instances-n.is) in
    let same : c.deref.result.now ≡ c.loop-n.seen.items = c.deref.ensures.value in
    let within : c.index-instances-n.result.group < length c.loop-n.seen.items = subst (λ (bs : List Bool). c.index-instances-n.result.group < length bs) same c.if-is_left_out.ensures.0 in
    let next : IsFirstBelow c.args.bound (BrokenBefore s (g.G.Groups.scope c.args.groups.now) c.args.certificate.now (c.loop-n.n + 1)) c.earliest-found.result =
    subst (IsFirstBelow c.args.bound (BrokenBefore s (g.G.Groups.scope c.args.groups.now) c.args.certificate.now (c.loop-n.n + 1))) (sym c.earliest-found.ensures)
    (taken s (g.G.Groups.scope c.args.groups.now) c.args.certificate.now c.args.bound c.loop-n.n c.index-instances-n.result at c.loop-n.found c.in_ok-here.here c.loop-n.invariant.first c.in_ok-here.ensures) in
    record {
      count = c.loop-n.invariant.count;
      seen = one_more_seen c.args.certificate.now.instances c.loop-n.seen.items c.loop-n.n c.index-instances-n.result at c.loop-n.invariant.seen within;
      first = next;
    }

pub returns : goal.returns
returns g c =
    let is : c.as_slice-instances.result.now ≡ c.args.certificate.now.instances = search rules in
    all_broken (g.G.Groups.system c.args.groups.now) (g.G.Groups.scope c.args.groups.now) c.args.certificate.now c.args.bound c.loop-n.n c.loop-n.found
    (let e = ap length is in omega arith) c.loop-n.invariant.first
