use Rattle.std.proofs.Common.{max, add-one, refl}
use Rattle.c_grammar.specs.Parts.{join}
use Rattle.c_parser.proofs.Branches.{when_else_view}
use Rattle.c_parser.proofs.statement_parts.chosen.Goals as goal

pub returns : goal.returns
returns c = rw (c.max-2.ensures, c.max.ensures, add-one (max c.args.condition.depth (max c.args.then.depth c.args.other.depth)), c.join-at.ensures, when_else_view (join c.args.token.now.at c.args.other.at) c.args.condition.tree c.args.then.tree c.args.other.tree) refl
