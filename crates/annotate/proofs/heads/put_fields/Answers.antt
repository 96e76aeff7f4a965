use Rattle.std.proofs.Common.{rules, ◌≡◌, suc, ap, add-one}
use Rattle.annotate.specs.Annotation.{field_line}
use Rattle.annotate.proofs.TextRows.{gather_more}
use Rattle.annotate.proofs.heads.put_fields.Goals as goal

pub loop-before-preserved : goal.loop-before-preserved
loop-before-preserved c =
    let t = c.args.source.now.typed.now in
    let g = c.args.source.now.graph.now in
    let phi = c.args.phi.now in
    let n = c.loop-before.before in
    gather_more n (λ j. field_line t g phi (suc j)) c.args.out.now.items c.loop-before.out.items c.put_field.new.out.items _ c.loop-before.invariant c.in_ok-put_field.ensures
    (ap (field_line t g phi) (add-one n))
