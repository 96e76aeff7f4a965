use Rattle.std.proofs.Common.{◌≡◌, ℕ, ◌+◌, ◌<◌, ◌≤◌, Bool, true, false, List, Option, Some, None, length, get_or, slice_get, refl, sym, ap, ◌∙◌, subst, arith, rules}
use Rattle.std.proofs.lemmas.Option.{slice_get_read}
use Rattle.std.specs.List.{Contains}
use Rattle.own_cert.specs.declared.certificate.Instance.{Instance}
use Rattle.conflict_proof.specs.declared.faults.Reason.TheVariants.{Range, Twice, Site}
use Rattle.verdict_meaning.specs.Systems.{System, root, members, callees}
use Rattle.verdict_meaning.specs.CertificateFaults.{HasFault, instance_line}
use Rattle.cert_checker.specs.Tables.{key_of}
use Rattle.cert_checker.specs.Keys.{keys_in}
use Rattle.cert_checker.proofs.LineLemmas.{match_true, match_false}
use Rattle.cert_checker.proofs.FirstLemmas.{first_here, none_beyond, none_at_all}
use Rattle.cert_checker.proofs.ShapeLemmas.{group_there, entry_there}
use Rattle.cert_checker.proofs.KeyLemmas.{AreSeen, IsTwiceAt, one_seen, seen_twice, twice_to, twice_from}
use Rattle.cert_checker.proofs.twice.first_twice.Goals as goal

pub returns-then-not-is_below : goal.returns-then-not-is_below
returns-then-not-is_below g c =
    let s : System = g.G.Groups.system c.args.groups.now in
    let is : c.as_slice-instances.result.now ≡ c.args.certificate.now.instances = search rules in
    let lt : c.loop-n.n < length c.args.certificate.now.instances = (let e = ap length is in omega arith) in
    let start : get_or c.args.starts.now c.loop-n.n 0 ≡ instance_line c.args.certificate.now.instances c.loop-n.n = c.requires.starts.each c.loop-n.n (omega (arith, lt)) in
    let line : c.in_ok-line.line ≡ instance_line c.args.certificate.now.instances c.loop-n.n + 1 = c.in_ok-line.ensures ∙ ap (λ (k : ℕ). k + 1) start in
    none_beyond c.args.certificate.now.instances 1 (IsTwiceAt s c.args.certificate.now.instances) (HasFault s (g.G.Groups.scope c.args.groups.now) c.args.certificate.now Twice) c.args.bound
    (twice_to s (g.G.Groups.scope c.args.groups.now) c.args.certificate.now) (twice_from s (g.G.Groups.scope c.args.groups.now) c.args.certificate.now)
    c.loop-n.n c.in_ok-line.line line c.if-not-is_below.ensures c.loop-n.invariant.apart

pub key_of-requires-clause-group : goal.key_of-requires-clause-group
key_of-requires-clause-group g c =
    let s : System = g.G.Groups.system c.args.groups.now in
    let is : c.as_slice-instances.result.now ≡ c.args.certificate.now.instances = search rules in
    let lt : c.loop-n.n < length c.args.certificate.now.instances = (let e = ap length is in omega arith) in
    let start : get_or c.args.starts.now c.loop-n.n 0 ≡ instance_line c.args.certificate.now.instances c.loop-n.n = c.requires.starts.each c.loop-n.n (omega (arith, lt)) in
    let line : c.in_ok-line.line ≡ instance_line c.args.certificate.now.instances c.loop-n.n + 1 = c.in_ok-line.ensures ∙ ap (λ (k : ℕ). k + 1) start in
    let at : slice_get c.args.certificate.now.instances c.loop-n.n ≡ Some c.index-instances-n.result =
    slice_get_read c.args.certificate.now.instances (length c.args.certificate.now.instances) c.loop-n.n c.index-instances-n.result refl lt (rw is at c.index-instances-n.is) in
    group_there s (g.G.Groups.scope c.args.groups.now) c.args.certificate.now c.args.bound c.requires.shapes c.loop-n.n c.index-instances-n.result at c.in_ok-line.line (omega (arith, line)) c.if-not-is_below.ensures

pub key_of-requires-clause-entry : goal.key_of-requires-clause-entry
key_of-requires-clause-entry g c =
    let s : System = g.G.Groups.system c.args.groups.now in
    let is : c.as_slice-instances.result.now ≡ c.args.certificate.now.instances = search rules in
    let lt : c.loop-n.n < length c.args.certificate.now.instances = (let e = ap length is in omega arith) in
    let start : get_or c.args.starts.now c.loop-n.n 0 ≡ instance_line c.args.certificate.now.instances c.loop-n.n = c.requires.starts.each c.loop-n.n (omega (arith, lt)) in
    let line : c.in_ok-line.line ≡ instance_line c.args.certificate.now.instances c.loop-n.n + 1 = c.in_ok-line.ensures ∙ ap (λ (k : ℕ). k + 1) start in
    let at : slice_get c.args.certificate.now.instances c.loop-n.n ≡ Some c.index-instances-n.result =
    slice_get_read c.args.certificate.now.instances (length c.args.certificate.now.instances) c.loop-n.n c.index-instances-n.result refl lt (rw is at c.index-instances-n.is) in
    entry_there s (g.G.Groups.scope c.args.groups.now) c.args.certificate.now c.args.bound c.requires.shapes c.loop-n.n c.index-instances-n.result at c.in_ok-line.line (omega (arith, line)) c.if-not-is_below.ensures

pub returns-then-not-branch : goal.returns-then-not-branch
returns-then-not-branch g c =
    let s : System = g.G.Groups.system c.args.groups.now in
    let is : c.as_slice-instances.result.now ≡ c.args.certificate.now.instances = search rules in
    let lt : c.loop-n.n < length c.args.certificate.now.instances = (let e = ap length is in omega arith) in
    let start : get_or c.args.starts.now c.loop-n.n 0 ≡ instance_line c.args.certificate.now.instances c.loop-n.n = c.requires.starts.each c.loop-n.n (omega (arith, lt)) in
    let line : c.in_ok-line.line ≡ instance_line c.args.certificate.now.instances c.loop-n.n + 1 = c.in_ok-line.ensures ∙ ap (λ (k : ℕ). k + 1) start in
    let at : slice_get c.args.certificate.now.instances c.loop-n.n ≡ Some c.index-instances-n.result =
    slice_get_read c.args.certificate.now.instances (length c.args.certificate.now.instances) c.loop-n.n c.index-instances-n.result refl lt (rw is at c.index-instances-n.is) in
    let there : Contains (keys_in c.loop-n.keys) c.in_ok-key.key.items = match_false c.in_ok-add.field-0 _ _ c.if-not-branch.true c.in_ok-add.ensures.new in
    let twice : IsTwiceAt s c.args.certificate.now.instances c.loop-n.n =
    seen_twice s c.args.certificate.now.instances (keys_in c.loop-n.keys) c.loop-n.n c.index-instances-n.result c.loop-n.invariant at (subst (Contains (keys_in c.loop-n.keys)) c.in_ok-key.ensures there) in
    first_here c.args.certificate.now.instances 1 (IsTwiceAt s c.args.certificate.now.instances) (HasFault s (g.G.Groups.scope c.args.groups.now) c.args.certificate.now Twice) c.args.bound
    (twice_to s (g.G.Groups.scope c.args.groups.now) c.args.certificate.now) (twice_from s (g.G.Groups.scope c.args.groups.now) c.args.certificate.now)
    c.loop-n.n c.in_ok-line.line line c.if-not-is_below.ensures twice c.loop-n.invariant.apart

pub loop-n-preserved : goal.loop-n-preserved
loop-n-preserved g c =
    let s : System = g.G.Groups.system c.args.groups.now in
    let is : c.as_slice-instances.result.now ≡ c.args.certificate.now.instances = search rules in
    let lt : c.loop-n.n < length c.args.certificate.now.instances = (let e = ap length is in omega arith) in
    let start : get_or c.args.starts.now c.loop-n.n 0 ≡ instance_line c.args.certificate.now.instances c.loop-n.n = c.requires.starts.each c.loop-n.n (omega (arith, lt)) in
    let line : c.in_ok-line.line ≡ instance_line c.args.certificate.now.instances c.loop-n.n + 1 = c.in_ok-line.ensures ∙ ap (λ (k : ℕ). k + 1) start in
    let at : slice_get c.args.certificate.now.instances c.loop-n.n ≡ Some c.index-instances-n.result =
    slice_get_read c.args.certificate.now.instances (length c.args.certificate.now.instances) c.loop-n.n c.index-instances-n.result refl lt (rw is at c.index-instances-n.is) in
    one_seen s c.args.certificate.now.instances (keys_in c.loop-n.keys) (keys_in c.add.new.keys) c.loop-n.n c.index-instances-n.result c.loop-n.invariant at
    (λ h. match_true c.in_ok-add.field-0 _ _ c.if-not-branch.false c.in_ok-add.ensures.new (subst (Contains (keys_in c.loop-n.keys)) (sym c.in_ok-key.ensures) h))
    (rw c.in_ok-key.ensures at c.in_ok-add.ensures.added)

pub returns : goal.returns
returns g c =
    let s : System = g.G.Groups.system c.args.groups.now in
    let is : c.as_slice-instances.result.now ≡ c.args.certificate.now.instances = search rules in
    none_at_all c.args.certificate.now.instances 1 (IsTwiceAt s c.args.certificate.now.instances) (HasFault s (g.G.Groups.scope c.args.groups.now) c.args.certificate.now Twice) c.args.bound
    (twice_to s (g.G.Groups.scope c.args.groups.now) c.args.certificate.now) (twice_from s (g.G.Groups.scope c.args.groups.now) c.args.certificate.now)
    c.loop-n.n (let e = ap length is in omega arith) c.loop-n.invariant.apart
