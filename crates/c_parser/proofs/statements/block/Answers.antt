use Rattle.c_parser.proofs.Paths.{block_below}
use Rattle.c_parser.proofs.statements.block.Goals as goal

pub returns : goal.returns
returns c = rw (block_below c.args.limit c.args.tokens.now c.requires.some, c.in_ok-opening.ensures) c.block_over.ensures.read
