use Rattle.std.proofs.Common.{arith, ap, ap₂, sym, ◌∙◌, ◌-◌, drop}
use Rattle.c_tree.specs.View.{expr_view, exprs_view}
use Rattle.flow_graph.specs.Edges.{ways, args}
use Rattle.flow_graph.specs.Parts.{temp}
use Rattle.flow_graph.proofs.Rows.{node_count_back, node_count_drop, args_back}
use Rattle.flow_graph.proofs.lowering.Lowering.+exprs.Goals as goal

pub args-number_before-k-requires : goal.args-number_before-k-requires
args-number_before-k-requires t c =
    let b = node_count_back c.args.es.now c.loop-i.i c.index-es-i.result c.loop-i-test.true c.loop-i.auto.i c.index-es-i.is in
    let d = node_count_drop c.args.es.now (c.loop-i.i - 1) in
    omega (arith, c.loop-i.invariant.count)

pub args-loop-i-preserved : goal.args-loop-i-preserved
args-loop-i-preserved t c =
    let k = c.number_before-k.result in
    let w = ways c.args.self.now.infos.now c.args.self.now.base k (expr_view c.index-es-i.result) in
    let b = node_count_back c.args.es.now c.loop-i.i c.index-es-i.result c.loop-i-test.true c.loop-i.auto.i c.index-es-i.is in
    let f = args_back c.args.self.now.infos.now c.args.self.now.base k c.loop-i.k c.args.es.now c.args.to c.loop-i.i c.index-es-i.result c.loop-i-test.true c.loop-i.auto.i c.index-es-i.is c.number_before-k.ensures.own in
    let rest = args c.args.self.now.infos.now c.args.self.now.base c.loop-i.k (exprs_view (drop c.loop-i.i c.args.es.now)) c.args.to in
    record {
      count = omega (arith, c.loop-i.invariant.count, c.number_before-k.ensures.own);
      below = c.number_before-k.ensures.first;
      start = c.in_ok-next.ensures.start ∙ ap₂ (λ x p. (w.run x p).start) c.temp.ensures c.loop-i.invariant.start ∙ sym (ap (λ p. p.start) f);
      edges = c.in_ok-next.ensures.edges ∙ ap₂ (λ x p. (w.run x p).after c.loop-i.out.items) c.temp.ensures c.loop-i.invariant.start
          ∙ ap (λ es. (w.run (temp c.args.self.now.infos.now c.args.self.now.base k) rest.start).after es) c.loop-i.invariant.edges ∙ sym (ap (λ p. p.after c.args.out.now.items) f);
    }
