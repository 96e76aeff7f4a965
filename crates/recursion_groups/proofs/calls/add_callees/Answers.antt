use Rattle.std.proofs.Common.{rules, ◌≡◌, ◌∙◌, ◌++◌, ◌∷◌, [], sym, arith}
use Rattle.recursion_groups.specs.Calls.{IsCalled}
use Rattle.recursion_groups.proofs.CallLemmas.{no_gains, edge_skipped, edge_on}
use Rattle.recursion_groups.proofs.calls.add_callees.Goals as goal
use Rattle.recursion_groups.proofs.calls.add_callees.Goals.{in-Some+then-called-bodies+in_ok-push, in-Some+else-called-bodies, in_default}

pub loop-edge-init : goal.loop-edge-init
loop-edge-init c = no_gains c.args.callees.now.items (IsCalled c.args.bodies []) (λ q h. omega (arith, h.there.1))

pub loop-edge-preserved : goal.loop-edge-preserved
loop-edge-preserved c =
    let l = c.loop-edge in
    elim c.match-callee.branch [
      | in-Some+then-called-bodies+in_ok-push w ↦
          let items : w.push.new.self.items ≡ l.callees.items ++ w.in-Some.called ∷ [] = search rules in
          rw (w.callees-is, items) (edge_on c.args.bodies c.args.callees.now.items l.callees.items c.args.edges.now l.edge-index c.edge-item.result (search rules) c.edge-item.is l.invariant w.in-Some.called
          (sym c.callee.ensures ∙ w.in-Some.is) (omega (arith, w.if-called-bodies.true)))
      | in-Some+else-called-bodies w ↦
          rw w.callees-is (edge_skipped c.args.bodies c.args.callees.now.items l.callees.items c.args.edges.now l.edge-index c.edge-item.result (search rules) c.edge-item.is l.invariant
          (λ q call below.
          let same : q ≡ w.in-Some.called = cc (c.callee.ensures, w.in-Some.is, call) in
          omega (arith, w.if-called-bodies.false)))
      | in_default w ↦
          rw w.callees-is (edge_skipped c.args.bodies c.args.callees.now.items l.callees.items c.args.edges.now l.edge-index c.edge-item.result (search rules) c.edge-item.is l.invariant
          (λ q call below. w.in_default.not-Some q (c.callee.ensures ∙ call)))
    ]
