use Rattle.std.proofs.Common.{[], arith, rules}
use Rattle.std.specs.List.{All}
use Rattle.std.proofs.lemmas.Grind.{common_steps}
use Rattle.std.proofs.lemmas.List.Elements.{All-set, All-push}
use Rattle.std.proofs.lemmas.List.FromFn.{fill_by_all}
use Rattle.flow_graph.specs.Numbers.{edges_at}
use Rattle.flow_graph.proofs.NumberRows.{EdgeFit}
use Rattle.flow_graph.proofs.table.edge_rows.Goals.{then-from-len+in_ok-push, else-from-len+in-Call-1, else-from-len+in-Skip-1}
use Rattle.flow_graph.proofs.table.edge_rows.Goals as goal

pub returns-clause-rows : goal.returns-clause-rows
returns-clause-rows c =
    fill_by_all (edges_at c.args.ns.now c.args.edges.now) c.loop-e.rows.items c.args.count [] c.loop-e.invariant.size
    (λ k h. grind (arith, common_steps, c.loop-e.invariant.here k h))

pub loop-e-preserved : goal.loop-e-preserved
loop-e-preserved c = elim c.if-from-len.branch [
  | then-from-len+in_ok-push w ↦ record {
    fit = rw w.rows-is (All-set (All EdgeFit) c.loop-e.rows.items c.in_ok-from.field-0 w.push.new.self.items
        (rw w.in_ok-push.ensures.items (All-push EdgeFit w.row.inside.items.items c.in_ok-edge.edge
        (rw w.row.view_is (rw w.index_mut-row.ensures.value (c.loop-e.invariant.fit c.in_ok-from.field-0 w.index_mut-row.result.now (search rules)))) c.in_ok-edge.ensures.constants)) c.loop-e.invariant.fit);
    size = search rules;
    here = λ p h. grind (arith, common_steps, c.loop-e.invariant.here p h);
  }
  | else-from-len+in-Call-1 w ↦ record {
    fit = rw w.rows-is c.loop-e.invariant.fit;
    size = rw w.rows-is c.loop-e.invariant.size;
    here = λ p h. grind (arith, common_steps, c.loop-e.invariant.here p h);
  }
  | else-from-len+in-Skip-1 w ↦ record {
    fit = rw w.rows-is c.loop-e.invariant.fit;
    size = rw w.rows-is c.loop-e.invariant.size;
    here = λ p h. grind (arith, common_steps, c.loop-e.invariant.here p h);
  }
]
