use Rattle.std.proofs.Common.{◌≡◌, ℕ, List, [], length, ap, sym, subst, arith}
use Rattle.flow_graph.specs.FlowGraph.{flow_of}
use Rattle.recursion_groups.specs.Calls.{Gains}
use Rattle.recursion_groups.proofs.CallLemmas.{CalledBefore, no_gains, none_before, places_on, calls_found}
use Rattle.recursion_groups.proofs.calls.callees.Goals as goal

pub loop-place-init : goal.loop-place-init
loop-place-init c =
    subst (λ (us : List ℕ). Gains [] us (CalledBefore c.args.graph.now c.args.proc 0)) (sym c.new-items.ensures.items)
    (no_gains [] (CalledBefore c.args.graph.now c.args.proc 0) (none_before c.args.graph.now c.args.proc))

pub loop-place-preserved : goal.loop-place-preserved
loop-place-preserved c =
    let e = c.edges_from.ensures in
    let b = c.bodies-bodies.ensures.count in
    places_on c.args.graph.now c.args.proc c.loop-place.place [] c.loop-place.items.items c.add_callees.new.callees.items c.loop-place.invariant (rw (e, b) at c.in_ok-add_callees.ensures)

pub returns : goal.returns
returns c =
    let g = c.args.graph.now in
    let end : c.loop-place.place ≡ length (flow_of g c.args.proc).places = omega (arith, ap length c.places.ensures) in
    calls_found g c.args.proc c.loop-place.items.items c.bodies-bodies.ensures.graph c.requires
    (subst (λ (n : ℕ). Gains [] c.loop-place.items.items (CalledBefore g c.args.proc n)) end c.loop-place.invariant)
