use Rattle.std.proofs.Common.{◌+◌, arith}
use Rattle.std.proofs.lemmas.Grind.{common_steps}
use Rattle.io_edge.proofs.Taken.{taken_more, taken_over, taken_at_most}
use Rattle.io_edge.proofs.transfer.read_file.Goals as goal

pub returns-then-n-most-clause-too_long : goal.returns-then-n-most-clause-too_long
returns-then-n-most-clause-too_long g c _ =
    taken_over _ _ _ c.args.most (taken_more _ _ _ _ _ c.loop-n.invariant.taken c.in-Ok-next.ensures.bytes.0) (grind (arith, common_steps))

pub returns-in_default-extend_from_slice-clause-taken_at_memory :
    goal.returns-in_default-extend_from_slice-clause-taken_at_memory
returns-in_default-extend_from_slice-clause-taken_at_memory g c _ =
    taken_at_most _ _ _ (c.args.most + 1) (taken_more _ _ _ _ _ c.loop-n.invariant.taken c.in-Ok-next.ensures.bytes.0) (grind (arith, common_steps))
