use Rattle.std.proofs.Common.{◌≡◌, ℕ, ◌+◌, ◌<◌, ◌≤◌, List, Option, Some, None, length, get_or, slice_get, refl, sym, ap, ◌∙◌, subst, arith, rules}
use Rattle.std.proofs.lemmas.Option.{slice_get_read}
use Rattle.own_cert.specs.declared.certificate.Instance.{Instance}
use Rattle.verdict_meaning.specs.Systems.{System}
use Rattle.verdict_meaning.specs.CertificateFaults.{instance_line}
use Rattle.cert_checker.specs.Finding.{IsFirstBelow, ShapeFault}
use Rattle.cert_checker.proofs.ShapeLemmas.{phi_first, shape_first, shape_none, one_more_shaped}
use Rattle.cert_checker.proofs.shapes.first_shape_fault.Goals as goal

pub returns-then-len-fields : goal.returns-then-len-fields
returns-then-len-fields g c =
    let long : c.len.result ≡ length c.args.certificate.now.phi = search rules in
    phi_first (g.G.Groups.system c.args.groups.now) (g.G.Groups.scope c.args.groups.now) c.args.certificate.now
    (λ e. c.if-len-fields.true (long ∙ e ∙ sym c.fields.ensures))

pub returns-in-Some : goal.returns-in-Some
returns-in-Some g c =
    let s : System = g.G.Groups.system c.args.groups.now in
    let long : c.len.result ≡ length c.args.certificate.now.phi = search rules in
    let is : c.as_slice-instances.result.now ≡ c.args.certificate.now.instances = search rules in
    let lt : c.loop-n.n < length c.args.certificate.now.instances = (let e = ap length is in omega arith) in
    let at : slice_get c.args.certificate.now.instances c.loop-n.n ≡ Some c.index-instances-n.result =
    slice_get_read c.args.certificate.now.instances (length c.args.certificate.now.instances) c.loop-n.n c.index-instances-n.result refl lt (rw is at c.index-instances-n.is) in
    let start : get_or c.args.starts.now c.loop-n.n 0 ≡ instance_line c.args.certificate.now.instances c.loop-n.n = c.requires.each c.loop-n.n (omega (arith, lt)) in
    let sum : c.in_ok-sum.field-0 ≡ instance_line c.args.certificate.now.instances c.loop-n.n + c.in-Some.offset = c.in_ok-sum.ensures ∙ ap (λ (k : ℕ). k + c.in-Some.offset) start in
    shape_first s (g.G.Groups.scope c.args.groups.now) c.args.certificate.now c.loop-n.n c.index-instances-n.result c.in-Some.offset c.in_ok-sum.field-0
    (sym long ∙ c.if-len-fields.false ∙ c.fields.ensures) at c.loop-n.invariant sum
    (subst (IsFirstBelow None (ShapeFault s c.index-instances-n.result)) c.in-Some.is c.in_ok-offset.ensures)

pub loop-n-preserved : goal.loop-n-preserved
loop-n-preserved g c =
    let s : System = g.G.Groups.system c.args.groups.now in
    let is : c.as_slice-instances.result.now ≡ c.args.certificate.now.instances = search rules in
    let lt : c.loop-n.n < length c.args.certificate.now.instances = (let e = ap length is in omega arith) in
    let at : slice_get c.args.certificate.now.instances c.loop-n.n ≡ Some c.index-instances-n.result =
    slice_get_read c.args.certificate.now.instances (length c.args.certificate.now.instances) c.loop-n.n c.index-instances-n.result refl lt (rw is at c.index-instances-n.is) in
    one_more_shaped s c.args.certificate.now c.loop-n.n c.index-instances-n.result at c.loop-n.invariant
    (subst (IsFirstBelow None (ShapeFault s c.index-instances-n.result)) c.in_default.is c.in_ok-offset.ensures)

pub returns : goal.returns
returns g c =
    let s : System = g.G.Groups.system c.args.groups.now in
    let long : c.len.result ≡ length c.args.certificate.now.phi = search rules in
    let is : c.as_slice-instances.result.now ≡ c.args.certificate.now.instances = search rules in
    shape_none s (g.G.Groups.scope c.args.groups.now) c.args.certificate.now c.loop-n.n (let e = ap length is in omega arith) (sym long ∙ c.if-len-fields.false ∙ c.fields.ensures) c.loop-n.invariant
