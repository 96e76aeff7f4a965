use Rattle.std.proofs.Common.{◌≡◌, Option, None, subst, sym, ap, ◌∙◌, rules}
use Rattle.std.specs.Prelude.{IfOk}
use Rattle.own_cert.specs.declared.certificate.Instance.{Instance}
use Rattle.cert_checker.specs.Finding.{IsFirstBelow, ShapeFault, instance_of}
use Rattle.cert_checker.proofs.shapes.shape_fault.Goals as goal

pub returns : goal.returns
returns g c =
    let same : instance_of c.instance.inside.0.0 c.instance.inside.0.1.0 c.deref.result.now c.deref-2.result.now c.deref-3.result.now ≡ c.args.instance.now = search rules in
    subst (λ (i : Instance). IfOk c.parts_fault.result (IsFirstBelow None (ShapeFault (g.G.Groups.system c.args.groups.now) i))) same c.parts_fault.ensures
