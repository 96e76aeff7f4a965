use Rattle.std.proofs.Common.{◌≡◌, ◌++◌, codes, ap, ◌∙◌}
use Rattle.owner_vars.specs.Unknowns.{gather}
use Rattle.annotate.specs.Annotation.{field_lines, extern_lines, proc_lines, keeps_lines}
use Rattle.annotate.proofs.whole.lines.Goals as goal

pub returns : goal.returns
returns c =
    let t = c.args.source.now.typed.now in
    let g = c.args.source.now.graph.now in
    let procs = gather g.bodies (proc_lines t g c.args.source.now.facts.now c.args.groups.now c.args.instances.now c.in_ok-put_instances.ensures.numbers) in
    let keeps = keeps_lines t g c.in_ok-put_kept.ensures.kept in
    record {
      numbers = c.in_ok-put_instances.ensures.numbers;
      order = c.in_ok-put_instances.ensures.order;
      kept = c.in_ok-put_kept.ensures.kept;
      back = c.in_ok-put_kept.ensures.back;
      text = c.in_ok-put_kept.ensures.text ∙ ap (λ m. m ++ keeps) (c.in_ok-put_instances.ensures.text ∙ ap (λ m. m ++ procs) (c.in_ok-put_externs.ensures
          ∙ ap (λ m. m ++ extern_lines t g) (c.in_ok-put_fields.ensures ∙ ap (λ m. m ++ field_lines t g c.args.phi.now) c.in_ok-out.ensures.items)));
    }
