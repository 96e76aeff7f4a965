use Rattle.c_parser.proofs.HeldNames.{names_held}
use Rattle.worked_examples.proofs.harness.parsed.Goals as goal

pub parse-requires : goal.parse-requires
parse-requires c = rw c.as_slice.ensures.value (names_held _ c.in_ok-tokens.ensures.formed)
