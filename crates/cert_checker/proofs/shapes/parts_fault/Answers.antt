use Rattle.std.proofs.Common.{◌≡◌, ◌<◌, ◌≤◌, ◌+◌, Option, Some, None, length, sym, ap, ◌∙◌, subst, arith}
use Rattle.std.specs.Prelude.{sum_by}
use Rattle.std.specs.List.{Contains}
use Rattle.own_cert.specs.declared.certificate.Instance.{Instance}
use Rattle.verdict_meaning.specs.Systems.{System, root, members, callees}
use Rattle.cert_checker.specs.Finding.{IsFirstAt, IsFirstBelow, RowsFault, ShapeFault, instance_of}
use Rattle.cert_checker.specs.Finding as shape
use Rattle.cert_checker.proofs.LineLemmas.{match_true, match_false}
use Rattle.cert_checker.proofs.ShapeLemmas.{at_first, at_iface, at_count, at_rows, at_none}
use Rattle.cert_checker.proofs.shapes.parts_fault.Goals as goal

pub returns-then-group-count : goal.returns-then-group-count
returns-then-group-count g c =
    at_first (g.G.Groups.system c.args.groups.now) (instance_of c.args.group c.args.entry c.args.iface.now c.args.sites.now c.args.rows.now) (shape.group (omega arith))

pub returns-then-not-has_number : goal.returns-then-not-has_number
returns-then-not-has_number g c =
    let s : System = g.G.Groups.system c.args.groups.now in
    at_first s (instance_of c.args.group c.args.entry c.args.iface.now c.args.sites.now c.args.rows.now)
    (shape.entry (λ h. c.if-not-has_number.ensures (rw c.members.ensures h)))

pub returns-then-branch : goal.returns-then-branch
returns-then-branch g c =
    let s : System = g.G.Groups.system c.args.groups.now in
    at_iface s (instance_of c.args.group c.args.entry c.args.iface.now c.args.sites.now c.args.rows.now) (omega arith)
    (rw c.members.ensures at c.if-not-has_number.ensures)
    (λ e. c.if-branch.true (e ∙ sym c.in_ok-face_len.ensures))

pub returns-then-sites-callees : goal.returns-then-sites-callees
returns-then-sites-callees g c =
    let s : System = g.G.Groups.system c.args.groups.now in
    at_count s (instance_of c.args.group c.args.entry c.args.iface.now c.args.sites.now c.args.rows.now) (omega arith)
    (rw c.members.ensures at c.if-not-has_number.ensures)
    (c.if-branch.false ∙ c.in_ok-face_len.ensures)
    (λ e. c.if-sites-callees.true (e ∙ sym (ap length c.callees.ensures)))

pub returns-in-Some : goal.returns-in-Some
returns-in-Some g c =
    let s : System = g.G.Groups.system c.args.groups.now in
    let i : Instance = instance_of c.args.group c.args.entry c.args.iface.now c.args.sites.now c.args.rows.now in
    subst (IsFirstAt None (ShapeFault s i)) (sym c.in_ok-sum-in-Some.ensures)
    (at_rows s i c.in-Some.k (omega arith) (rw c.members.ensures at c.if-not-has_number.ensures) (c.if-branch.false ∙ c.in_ok-face_len.ensures)
    (c.if-sites-callees.false ∙ ap length c.callees.ensures) c.in-Some.ensures)
