use Rattle.command_words.proofs.Lines.{three_parts}
use Rattle.command_words.proofs.sample.push_main.Goals as goal

pub returns : goal.returns
returns c = three_parts _ _ _ _ _ _ _ c.in_ok-extend_from_slice.ensures.items c.in_ok-push_number.ensures c.in_ok-extend_from_slice-2.ensures.items
