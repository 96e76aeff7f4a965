use Rattle.std.proofs.Common.{◌≡◌, ◌++◌, subst, ap, ◌∙◌}
use Rattle.owner_vars.specs.Unknowns.{gather}
use Rattle.annotate.specs.Annotation.{proc_lines}
use Rattle.annotate.proofs.whole.put_instances.Goals as goal

pub returns : goal.returns
returns c = record {
  numbers = c.in_ok-order.order.items;
  order = c.in_ok-order.ensures;
  text = c.in_ok-put_procs.ensures
      ∙ ap (λ ns. c.args.out.now.items ++ gather c.args.source.now.graph.now.bodies (proc_lines c.args.source.now.typed.now c.args.source.now.graph.now c.args.source.now.facts.now c.args.groups.now c.args.instances.now ns)) c.deref.ensures.value;
}
