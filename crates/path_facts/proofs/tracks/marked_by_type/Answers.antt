use Rattle.std.proofs.Common.{◌≡◌, ◌<◌, List, get_or, ltb, ◌∙◌, sym, ap, arith, length, length-append, [], ◌∷◌}
use Rattle.std.proofs.lemmas.Bool.{lt-ltb, or_left}
use Rattle.c_types.specs.declared.kinds.SlotType.{SlotType}
use Rattle.c_types.specs.declared.kinds.SlotType.TheVariants as type
use Rattle.c_types.specs.Types.{is_pointer}
use Rattle.flow_graph.specs.FlowGraph.{flow_of, type_in}
use Rattle.path_facts.proofs.TrackLemmas.{by_type, each_more, type_or}
use Rattle.path_facts.proofs.tracks.marked_by_type.Goals as goal
use Rattle.path_facts.proofs.tracks.marked_by_type.Goals.{then-slot-params, else-slot-params}

pub slots-preserved : goal.slots-preserved
slots-preserved c =
    let value : c.if-slot-params.push ≡ by_type c.args.graph.now c.args.proc c.slots.slot =
    elim c.if-slot-params.branch [
      | then-slot-params w ↦
          let param : c.slots.slot < length (flow_of c.args.graph.now c.args.proc).params = omega (arith, w.if-slot-params.true, ap length c.params-params.ensures) in
          w.push-is ∙ lt-ltb _ _ w.if-slot-params.true
          ∙ sym (or_left (ltb c.slots.slot (length (flow_of c.args.graph.now c.args.proc).params)) (is_pointer (type_in (flow_of c.args.graph.now c.args.proc).slots c.slots.slot)) (lt-ltb _ _ param))
      | else-slot-params w ↦
          w.push-is ∙ w.is_pointer.ensures ∙ ap (λ (ts : List SlotType). is_pointer (get_or ts c.slots.slot type.Int)) c.slots-slots.ensures
          ∙ type_or c.slots.slot (length (flow_of c.args.graph.now c.args.proc).params) (is_pointer (type_in (flow_of c.args.graph.now c.args.proc).slots c.slots.slot))
          (omega (arith, w.if-slot-params.false, ap length c.params-params.ensures))
    ] in
    let count = c.slots.invariant.count in
    rw c.in_ok-push.ensures.items
    (record {
      count = omega (arith, length-append c.slots.marks.items (c.if-slot-params.push ∷ []));
      each = each_more (by_type c.args.graph.now c.args.proc) c.slots.marks.items c.if-slot-params.push c.slots.slot count c.slots.invariant.each value;
    })

pub returns-clause-size : goal.returns-clause-size
returns-clause-size c =
    let slots = ap length c.slots-slots.ensures in
    let stop = c.slots-test.false in
    let high = c.slots.auto.slot-end in
    let count = c.slots.invariant.count in
    omega arith

pub returns-clause-each : goal.returns-clause-each
returns-clause-each c x small =
    let slots = ap length c.slots-slots.ensures in
    let stop = c.slots-test.false in
    c.slots.invariant.each x (omega arith)
