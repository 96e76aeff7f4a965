use Rattle.std.proofs.Common.{◌≡◌, length, rules, arith}
use Rattle.verdict_meaning.specs.Programs.{system_in}
use Rattle.program_shapes.proofs.Placing.{done_next, done_all}
use Rattle.program_shapes.proofs.procs.proc_shapes.Goals as goal

pub loop-group-preserved : goal.loop-group-preserved
loop-group-preserved c =
    let p = c.args.program.now in
    let many : c.in-Ok.groups ≡ length p.groups = search rules in
    let lt = c.loop-group-test.true in
    done_next p.graph (system_in p) c.law.ensures.groups c.loop-group.group p.graph.bodies c.loop-group.procs.items c.place_group.new.procs.items (omega arith) c.loop-group.invariant c.in_ok-place_group.ensures

pub returns : goal.returns
returns c =
    let p = c.args.program.now in
    let many : c.in-Ok.groups ≡ length p.groups = search rules in
    let high = c.loop-group-test.false in
    done_all p.graph (system_in p) c.law.ensures.groups c.loop-group.group c.loop-group.procs.items (omega arith) c.loop-group.invariant
