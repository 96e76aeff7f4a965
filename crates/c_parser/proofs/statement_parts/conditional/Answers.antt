use Rattle.std.proofs.Common.{max, add-one, refl}
use Rattle.c_grammar.specs.Parts.{join}
use Rattle.c_parser.proofs.Branches.{when_view}
use Rattle.c_parser.proofs.statement_parts.conditional.Goals as goal

pub returns : goal.returns
returns c = rw (c.max-depth.ensures, c.in_ok-stmt.ensures, add-one (max c.args.condition.depth c.args.stmt.depth), c.join-at.ensures, when_view (join c.args.token.now.at c.args.stmt.at) c.args.condition.tree c.args.stmt.tree) refl
