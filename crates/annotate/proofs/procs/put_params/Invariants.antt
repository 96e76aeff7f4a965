use Rattle.std.proofs.Common.{◌≡◌, ◌≤◌, ◌++◌, take}
use Rattle.flow_graph.specs.Fits.{pointer_count}
use Rattle.owner_vars.specs.Unknowns.{gather}
use Rattle.annotate.specs.Annotation.{comma, param_text}
use Rattle.annotate.proofs.procs.put_params.Given as goal

abbrev pub invariant-loop-place : goal.invariant-loop-place
invariant-loop-place l = record {
  text : l.out.items ≡ l.fn.out.items ++ gather l.place (λ j. comma j ++ param_text l.typed l.proc l.kinds l.face j);
  part : l.part ≡ pointer_count (take l.place l.kinds);
  few : l.part ≤ l.place;
}
