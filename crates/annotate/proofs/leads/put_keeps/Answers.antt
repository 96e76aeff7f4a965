use Rattle.std.proofs.Common.{cond, [], suc, ap, add-one}
use Rattle.annotate.specs.Annotation.{keeps_line}
use Rattle.annotate.specs.Keeps.{leads_back}
use Rattle.annotate.proofs.TextRows.{gather_more}
use Rattle.annotate.proofs.leads.put_keeps.Goals as goal

pub loop-before-preserved : goal.loop-before-preserved
loop-before-preserved c =
    let t = c.args.source.now.typed.now in
    let g = c.args.source.now.graph.now in
    let phi = c.args.phi.now in
    let marks = c.args.marks.now in
    let n = c.loop-before.before in
    gather_more n (λ j. cond (leads_back g phi marks (suc j)) (keeps_line t g (suc j)) []) c.args.out.now.items c.loop-before.out.items c.put_if_kept.new.out.items _ c.loop-before.invariant c.in_ok-put_if_kept.ensures
    (ap (λ f. cond (leads_back g phi marks f) (keeps_line t g f) []) (add-one n))
