use Rattle.command_words.proofs.Lines.{seven_parts}
use Rattle.command_words.proofs.sample.push_caller.Goals as goal

pub returns : goal.returns
returns c = seven_parts _ _ _ _ _ _ _ _ _ _ _ _ _ _ _ c.in_ok-extend_from_slice.ensures.items c.in_ok-push_number.ensures c.in_ok-extend_from_slice-2.ensures.items
    c.in_ok-push_number-2.ensures c.in_ok-extend_from_slice-3.ensures.items c.in_ok-push_number-3.ensures c.in_ok-extend_from_slice-4.ensures.items
