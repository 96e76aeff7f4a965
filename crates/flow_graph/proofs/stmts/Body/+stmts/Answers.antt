use Rattle.std.proofs.Common.{arith, ap, ap₂, sym, ◌∙◌, ◌-◌}
use Rattle.c_tree.specs.View.{stmt_view}
use Rattle.flow_graph.specs.Edges.{flow}
use Rattle.flow_graph.proofs.Rows.{stmt_count_back, stmt_count_drop, flow_all_back}
use Rattle.flow_graph.proofs.stmts.Body.+stmts.Goals as goal

pub flow_all-number_before-k-requires : goal.flow_all-number_before-k-requires
flow_all-number_before-k-requires t c =
    let b = stmt_count_back c.args.ss.now c.loop-i.i c.index-ss-i.result c.loop-i-test.true c.loop-i.auto.i c.index-ss-i.is in
    let d = stmt_count_drop c.args.ss.now (c.loop-i.i - 1) in
    omega (arith, c.loop-i.invariant.count)

pub flow_all-loop-i-preserved : goal.flow_all-loop-i-preserved
flow_all-loop-i-preserved t c =
    let k = c.number_before-k.result in
    let w = flow c.args.self.now.infos.now c.args.exits.break_to c.args.exits.continue_to k (stmt_view c.index-ss-i.result) in
    let b = stmt_count_back c.args.ss.now c.loop-i.i c.index-ss-i.result c.loop-i-test.true c.loop-i.auto.i c.index-ss-i.is in
    let f = flow_all_back c.args.self.now.infos.now c.args.exits.break_to c.args.exits.continue_to k c.loop-i.k c.args.ss.now c.args.to c.loop-i.i c.index-ss-i.result c.loop-i-test.true c.loop-i.auto.i c.index-ss-i.is c.number_before-k.ensures.own in
    record {
      count = omega (arith, c.loop-i.invariant.count, c.number_before-k.ensures.own);
      below = c.number_before-k.ensures.first;
      start = c.in_ok-next.ensures.start ∙ ap (λ p. (w p).start) c.loop-i.invariant.start ∙ sym (ap (λ p. p.start) f);
      edges = c.in_ok-next.ensures.edges ∙ ap₂ (λ p es. (w p).after es) c.loop-i.invariant.start c.loop-i.invariant.edges ∙ sym (ap (λ p. p.after c.args.out.now.items) f);
    }
