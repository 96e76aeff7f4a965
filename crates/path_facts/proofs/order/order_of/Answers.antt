use Rattle.std.proofs.Common.{◌<◌, ℕ, false, [], ◌∷◌, length, arith, sym, ◌∙◌}
use Rattle.std.proofs.lemmas.List.{get_or_default}
use Rattle.std.proofs.lemmas.List.Elements.{All-push, Contains-append_left}
use Rattle.flow_graph.specs.FlowGraph.{flow_of}
use Rattle.path_facts.proofs.SearchLemmas.{contains_past, contains_here, Contains-reverse}
use Rattle.path_facts.proofs.order.order_of.Goals as goal
use Rattle.path_facts.proofs.order.order_of.Goals.{then-not-index+in_ok-push, else-not-index}

pub rest-preserved : goal.rest-preserved
rest-preserved c =
    let n : ℕ = length (flow_of c.args.graph.now c.args.proc).places in
    let count = c.in_ok-placed.ensures.placed_count in
    let end = c.len-place-end.ensures in
    let before = c.rest.invariant in
    elim c.if-not-index.branch [
      | then-not-index+in_ok-push w ↦
          rw (w.order-is, w.in_ok-push.ensures.items)
          (record {
            within = All-push (λ (p : ℕ). p < n) c.rest.order.items c.rest.place before.within (omega arith);
            stands = λ p placed. Contains-append_left c.rest.order.items (c.rest.place ∷ []) p (before.stands p placed);
            passed = contains_past c.rest.order.items c.rest.place before.passed;
          })
      | else-not-index w ↦
          let placed = c.index.ensures ∙ get_or_default c.in_ok-placed.field-0.placed.items c.rest.place c.index.result.now false (omega arith) in
          rw w.order-is
          (record {
            within = before.within;
            stands = before.stands;
            passed = contains_here c.rest.order.items c.rest.place before.passed (before.stands c.rest.place (sym placed ∙ w.if-not-index.false));
          })
    ]

pub returns-clause-every : goal.returns-clause-every
returns-clause-every c p inside =
    let count = c.in_ok-placed.ensures.placed_count in
    let end = c.len-place-end.ensures in
    let stop = c.rest-test.false in
    rw c.reverse.ensures.items (Contains-reverse c.rest.order.items p (c.rest.invariant.passed p (omega arith)))
