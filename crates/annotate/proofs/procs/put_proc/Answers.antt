use Rattle.std.proofs.Common.{◌≡◌, get_or, ap}
use Rattle.std.proofs.lemmas.List.{get_or_read}
use Rattle.annotate.specs.Annotation.{instance_lines}
use Rattle.annotate.specs.Instances.{no_instance, instance_at}
use Rattle.annotate.proofs.TextRows.{list_more}
use Rattle.annotate.proofs.procs.put_proc.Goals as goal

pub loop-number-preserved : goal.loop-number-preserved
loop-number-preserved c =
    let l = c.loop-number in
    let t = c.args.source.now.typed.now in
    let g = c.args.source.now.graph.now in
    let facts = c.args.source.now.facts.now in
    let is = c.args.instances.now in
    let ns = c.args.numbers.now in
    let n = get_or ns l.number-index 0 in
    let here : c.index-instances-number.result ≡ instance_at is n = get_or_read is n c.index-instances-number.result (c.requires.numbers l.number-index 0 c.loop-number-test.true) c.index-instances-number.is no_instance in
    list_more (λ m. instance_lines t g facts c.args.proc c.args.seat (instance_at is m)) ns l.number-index 0 c.loop-number-test.true
    c.args.out.now.items l.out.items c.put_instance.new.out.items _ l.invariant c.in_ok-put_instance.ensures (ap (instance_lines t g facts c.args.proc c.args.seat) here)
