use Rattle.std.proofs.Common.{rules, ◌≡◌, ◌<◌, ◌∙◌, get_or, arith}
use Rattle.annotate.specs.Annotation.{proc_lines}
use Rattle.annotate.specs.Instances.{no_seat}
use Rattle.annotate.proofs.TextRows.{gather_more, lines_of_group}
use Rattle.annotate.proofs.procs.put_procs.Goals as goal

pub loop-proc-preserved : goal.loop-proc-preserved
loop-proc-preserved c =
    let t = c.args.source.now.typed.now in
    let graph = c.args.source.now.graph.now in
    let facts = c.args.source.now.facts.now in
    let is = c.args.instances.now in
    let ns = c.args.order.now in
    let k = c.loop-proc.proc in
    let s = c.seat_at-seat.result in
    let here : s ≡ get_or c.in_ok-seats.seats.items k no_seat = search rules in
    let body : k < graph.bodies = omega (arith, c.loop-proc-test.true, c.bodies-proc-end.ensures.count) in
    gather_more k (proc_lines t graph facts c.args.groups.now is ns) c.args.out.now.items c.loop-proc.out.items c.put_proc.new.out.items _ c.loop-proc.invariant c.in_ok-put_proc.ensures
    (lines_of_group t graph facts c.args.groups.now is ns c.of_group-numbers.result.now k s (here ∙ c.in_ok-seats.ensures.each k body) c.of_group-numbers.ensures.numbers)
