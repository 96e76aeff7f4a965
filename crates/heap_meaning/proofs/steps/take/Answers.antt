use Rattle.std.proofs.Common.{◌≡◌, Ok, arith, sym, ap, ◌∙◌}
use Rattle.heap_meaning.specs.declared.states.Frame.{Frame}
use Rattle.heap_meaning.specs.Reads.{all_set}
use Rattle.heap_meaning.specs.Deeds.{running, below}
use Rattle.heap_meaning.proofs.Taken.{entered_taken, done_taken}
use Rattle.heap_meaning.proofs.steps.take.Goals as goal

pub returns-then-callee-bodies-clause-taken : goal.returns-then-callee-bodies-clause-taken
returns-then-callee-bodies-clause-taken c =
    let set : all_set (running c.args.state.now.frames).slots c.in-Call.args ≡ Ok c.in_default-check_set.field-0 =
    ap (λ (t : Frame). all_set t.slots c.in-Call.args) (sym c.under-frame.ensures) ∙ sym c.check_set.ensures ∙ c.in_default-check_set.is in
    entered_taken c.args.graph.now c.args.choice.now (running c.args.state.now.frames) (below c.args.state.now.frames) c.args.state.now.heap c.args.edge.now.to
    c.in-Call.into c.in-Call.callee c.in-Call.args c.args.edge.now.action c.in_default-check_set.field-0 c.args.state.now c.enter.new.state c.enter.result
    c.in-Call.is set (omega arith) c.enter.ensures.entered

pub returns-in-Ok : goal.returns-in-Ok
returns-in-Ok c = record {
  taken = done_taken c.args.graph.now c.args.choice.now (running c.args.state.now.frames) (below c.args.state.now.frames) c.args.state.now.heap c.args.edge.now.to
      c.args.edge.now.action c.deed_of.result c.in-Ok.deed c.args.state.now c.carry_out.new.state c.carry_out.result c.requires.plain c.in_default.not-Call
      (λ plain. rw c.under-frame.ensures at (c.deed_of.ensures plain)) c.in-Ok.is c.carry_out.ensures.done;
  memory = c.carry_out.ensures.memory;
}
