use Rattle.std.proofs.Common.{◌≡◌, ◌∙◌, [], arith, ap, length, get_or}
use Rattle.std.proofs.lemmas.List.{get_or_read}
use Rattle.owner_vars.proofs.Lists.{length-listed}
use Rattle.annotate.specs.Positions.{spans_of}
use Rattle.annotate.proofs.PositionRows.{position_is}
use Rattle.annotate.proofs.positions.position.Goals as goal

pub bounds-spans-proc : goal.bounds-spans-proc
bounds-spans-proc c =
    let a = ap length c.requires in
    let b = length-listed c.args.graph.now.bodies (spans_of c.args.typed.now) in
    omega (arith, a, b, c.if-proc-bodies.false, c.bodies.ensures.count)

pub returns : goal.returns
returns c =
    let a = ap length c.requires in
    let below = length-listed c.args.graph.now.bodies (spans_of c.args.typed.now) in
    let row : c.deref.result.now ≡ get_or c.args.spans.now c.args.proc [] =
    c.deref.ensures.value ∙ c.nodes.view_is ∙ get_or_read c.args.spans.now c.args.proc c.index-spans-proc.result (omega (arith, a, below, c.if-proc-bodies.false, c.bodies.ensures.count)) c.index-spans-proc.is [] in
    position_is c.args.typed.now c.args.graph.now c.args.spans.now c.args.proc c.args.place c.in-Some.item.now c.deref.result.now c.place_of.result _ c.requires
    (omega (arith, c.if-proc-bodies.false, c.bodies.ensures.count)) c.in-Some.ensures row c.place_of.ensures c.place_span.ensures
