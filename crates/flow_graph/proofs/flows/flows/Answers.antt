use Rattle.std.proofs.Common.{arith, rules}
use Rattle.std.proofs.lemmas.Grind.{common_steps}
use Rattle.std.proofs.lemmas.List.Elements.{All-push}
use Rattle.flow_graph.specs.Fits.{ConstantsFit}
use Rattle.flow_graph.proofs.FlowRows.{flows_at, all_strings_at}
use Rattle.flow_graph.proofs.flows.flows.Goals as goal

pub loop-info-preserved : goal.loop-info-preserved
loop-info-preserved c = record {
  fit = rw c.in_ok-push.ensures.items (All-push ConstantsFit c.loop-info.flows.items c.in_ok-flow.flow c.loop-info.invariant.fit c.in_ok-flow.ensures.constants);
  count = search rules;
  flows = grind (arith, common_steps, flows_at);
  texts = grind (arith, common_steps, all_strings_at);
}
