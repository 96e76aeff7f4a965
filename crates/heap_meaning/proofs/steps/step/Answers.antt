use Rattle.std.proofs.Common.{◌<◌, length, sym, ◌∙◌, arith}
use Rattle.flow_graph.specs.Fits.{AreWays}
use Rattle.heap_meaning.specs.Run.{Steps}
use Rattle.heap_meaning.proofs.Taken.{ways_on, one_way, two_ways, step_keeps, steps_keep, one_way_steps, two_ways_step, off_exit, exit_at, edges_at, at_exit}
use Rattle.heap_meaning.proofs.steps.step.Goals as goal

pub returns-then-frame-places-clause-kept : goal.returns-then-frame-places-clause-kept
returns-then-frame-places-clause-kept c =
    let g = c.args.graph.now in
    let s = c.args.state.now in
    let some : 0 < length s.frames = omega arith in
    let at = exit_at g s c.under-frame.result.now c.places-places.result.now c.under-frame.ensures c.places-places.ensures c.if-frame-places.true in
    let steps : Steps g s c.args.choice.now c.leave.result c.leave.new.state = rw (at_exit g s c.args.choice.now some at) c.leave.ensures in
    step_keeps g s c.leave.new.state c.args.choice.now c.leave.result c.law.ensures.graph c.requires steps

pub test-requires-clause-sides : goal.test-requires-clause-sides
test-requires-clause-sides c =
    let g = c.args.graph.now in
    let s = c.args.state.now in
    let es = c.edges_from.result.now in
    let some : 0 < length s.frames = omega arith in
    let off = off_exit g s c.under-frame.result.now c.places-places.result.now c.under-frame.ensures c.places-places.ensures c.if-frame-places.false in
    let ways : AreWays es = rw (edges_at g s c.under-frame.result.now es c.under-frame.ensures c.edges_from.ensures) (ways_on g s c.law.ensures.graph c.requires some off) in
    (two_ways es c.first-item.result c.second-item.result ways (omega arith) c.first-item.is c.second-item.is).0

pub returns-in-len1-clause-steps : goal.returns-in-len1-clause-steps
returns-in-len1-clause-steps c =
    let g = c.args.graph.now in
    let s = c.args.state.now in
    let es = c.edges_from.result.now in
    let some : 0 < length s.frames = omega arith in
    let off = off_exit g s c.under-frame.result.now c.places-places.result.now c.under-frame.ensures c.places-places.ensures c.if-frame-places.false in
    let at = edges_at g s c.under-frame.result.now es c.under-frame.ensures c.edges_from.ensures in
    let ways : AreWays es = rw at (ways_on g s c.law.ensures.graph c.requires some off) in
    let only = (one_way es c.only-item.result ways (omega arith) c.only-item.is).1 in
    one_way_steps g s c.take.new.state c.args.choice.now c.take.result c.only-item.result some off (sym at ∙ only) c.take.ensures.taken

pub returns-in-len1-clause-kept : goal.returns-in-len1-clause-kept
returns-in-len1-clause-kept c =
    let g = c.args.graph.now in
    let s = c.args.state.now in
    let es = c.edges_from.result.now in
    let some : 0 < length s.frames = omega arith in
    let off = off_exit g s c.under-frame.result.now c.places-places.result.now c.under-frame.ensures c.places-places.ensures c.if-frame-places.false in
    let at = edges_at g s c.under-frame.result.now es c.under-frame.ensures c.edges_from.ensures in
    let ways : AreWays es = rw at (ways_on g s c.law.ensures.graph c.requires some off) in
    let only = (one_way es c.only-item.result ways (omega arith) c.only-item.is).1 in
    steps_keep g s c.take.new.state c.args.choice.now c.take.result c.law.ensures.graph c.requires
    (one_way_steps g s c.take.new.state c.args.choice.now c.take.result c.only-item.result some off (sym at ∙ only) c.take.ensures.taken) c.take.ensures.memory

pub returns-in-len2-up-clause-steps : goal.returns-in-len2-up-clause-steps
returns-in-len2-up-clause-steps c =
    let g = c.args.graph.now in
    let s = c.args.state.now in
    let es = c.edges_from.result.now in
    let some : 0 < length s.frames = omega arith in
    let off = off_exit g s c.under-frame.result.now c.places-places.result.now c.under-frame.ensures c.places-places.ensures c.if-frame-places.false in
    let at = edges_at g s c.under-frame.result.now es c.under-frame.ensures c.edges_from.ensures in
    let ways : AreWays es = rw at (ways_on g s c.law.ensures.graph c.requires some off) in
    let both = (two_ways es c.first-item.result c.second-item.result ways (omega arith) c.first-item.is c.second-item.is).1 in
    two_ways_step g s c.test.new.state c.args.choice.now c.test.result c.first-item.result c.second-item.result some off (sym at ∙ both) (c.test.ensures g c.args.choice.now)

pub returns-in-len2-up-clause-kept : goal.returns-in-len2-up-clause-kept
returns-in-len2-up-clause-kept c =
    let g = c.args.graph.now in
    let s = c.args.state.now in
    let es = c.edges_from.result.now in
    let some : 0 < length s.frames = omega arith in
    let off = off_exit g s c.under-frame.result.now c.places-places.result.now c.under-frame.ensures c.places-places.ensures c.if-frame-places.false in
    let at = edges_at g s c.under-frame.result.now es c.under-frame.ensures c.edges_from.ensures in
    let ways : AreWays es = rw at (ways_on g s c.law.ensures.graph c.requires some off) in
    let both = (two_ways es c.first-item.result c.second-item.result ways (omega arith) c.first-item.is c.second-item.is).1 in
    step_keeps g s c.test.new.state c.args.choice.now c.test.result c.law.ensures.graph c.requires
    (two_ways_step g s c.test.new.state c.args.choice.now c.test.result c.first-item.result c.second-item.result some off (sym at ∙ both) (c.test.ensures g c.args.choice.now))
